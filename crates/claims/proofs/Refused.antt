-- "Unfit ones are refused by number; a refused call leaves state and memory as they were." K7: "A press under refusal 5 now changes that event
-- only, the one exception to demand 1." Each number "given exactly when";
-- K6: "Refusal 4 carries that number to every caller", the first broken rule.
use Rattle.std.specs.Prelude.{◌≡◌, Bool, false, not, List, [], ℕ, ◌+◌, ◌*◌, ◌≤◌, length, eqb, ltb, leb}
use Rattle.std.proofs.Math.Path.{refl}
use Rattle.std.proofs.Common.{arith}
use Rattle.ground.specs.Tests.{◌and◌, ◌or◌, choose◌then◌else◌}
use Rattle.address.specs.Address.{to_msf, to_block, is_msf}
use Rattle.drive.specs.declared.state.Drive.{Drive}
use Rattle.attention.specs.Sense.{sense_at}
use Rattle.play.specs.Play.{is_status, is_play}
use Rattle.page.specs.Page.{is_setting}
use Rattle.drive.specs.State.{is_known_state}
use Rattle.drive.specs.StateLaws.{power_on-with, power_on_without_change-with}
use Rattle.table.specs.Layout.{last_session}
use Rattle.disc.specs.Rules.{is_fit}
use Rattle.disc.specs.RulesLaws.{fault-first}
use Rattle.disc.specs.Part.{part_refused}
use Rattle.claims.specs.MediaEvent.{is_pressed}
use Rattle.claims.specs.Call.{event, by_default, without_change, Call, powering, pressing, laying, lifting, moving_on, packet, memory_of, answer, next}
use Rattle.claims.proofs.RefusalLaws.{call_unchanged, call_beside, reply-ordered, reply-broken, press-tested, press-locked, lay-tested, lift-tested, move-tested, part_parted, part_beside, part_broken, to_msf_number, to_block_number}
use Rattle.claims.specs.Refused.{pressed_on, is_first1, is_first2, is_first3, is_first4, is_first5, is_first6, is_first7}
use Rattle.claims.specs.Refused as said

-- a call with a number other than 0 leaves the state as it was, with this one exception, that a press under refusal 5 changes the event only;
-- and it answers "status 0, 0 bytes, start 0, count 0" with the memory as it was
pub refused_unchanged : (c : Call) (d : Drive) → ((answer c d).number ≡ 0 → ⊥)
    → (next c d ≡ (choose is_pressed (event c d) then pressed_on d else d))
    × (answer c d ≡ record {
      number = (answer c d).number;
      rule = (answer c d).rule;
      status = 0;
      full = [];
      limit = 0;
      start = 0;
      count = 0;
      memory = memory_of c;
    })
refused_unchanged = call_unchanged

module _ (d : Drive) where
  abbrev gives : Call → ℕ → Bool
  gives = said.gives d

  abbrev breaks : Call → ℕ → Bool
  breaks = said.breaks d

  -- of every call: the rule is one of 1 to 7 exactly with 4, and 0 exactly with every other number and with success
  pub refused-rule : (c : Call)
      → (leb 1 (answer c d).rule and leb (answer c d).rule 7 ≡ gives c 4) × (eqb (answer c d).rule 0 ≡ not (gives c 4))
  refused-rule c = let b = call_beside c d in (b.one, b.none)

  abbrev is_state : Bool
  is_state = said.is_state d

  abbrev is_of_thirteen : Bool
  is_of_thirteen = said.is_of_thirteen d

  abbrev is_of_four : Bool
  is_of_four = said.is_of_four d

  abbrev is_within : Bool
  is_within = said.is_within d

  abbrev is_of_twenty : Bool
  is_of_twenty = said.is_of_twenty d

  abbrev is_up_to_three : Bool
  is_up_to_three = said.is_up_to_three d

  pub refused-2-state : is_state ≡ is_of_thirteen and (is_of_four and is_within) and is_of_twenty and is_up_to_three
  unfolding is_known_state is_play is_status is_setting
  refused-2-state = refl

  -- ---- "Packets test 1, 2, 3, 4, then the steps below"; K9: and nothing more

  module _ (p t l m : List ℕ) where
    abbrev is_twelve : Bool
    is_twelve = said.is_twelve d p t l m

    abbrev is_under : Bool
    is_under = said.is_under d p t l m

    abbrev is_unfit : Bool
    is_unfit = said.is_unfit d p t l m

    pub refused-1 : gives (packet p t l m) 1 ≡ not is_twelve
    refused-1 = (reply-ordered d p t (length m) l).one

    pub refused-2 : gives (packet p t l m) 2 ≡ is_twelve and not is_state
    refused-2 = (reply-ordered d p t (length m) l).two

    pub refused-3 : gives (packet p t l m) 3 ≡ is_twelve and is_state and is_under
    refused-3 = (reply-ordered d p t (length m) l).three

    pub refused-4 : gives (packet p t l m) 4 ≡ is_twelve and is_state and not is_under and is_unfit
    refused-4 = (reply-ordered d p t (length m) l).four

    abbrev is_looked : Bool
    is_looked = said.is_looked d p t l m

    pub refused-4-rule1 : breaks (packet p t l m) 1 ≡ is_looked and is_first1 t
    refused-4-rule1 = reply-broken d p t (length m) l 1 refl (fault-first t).one

    pub refused-4-rule2 : breaks (packet p t l m) 2 ≡ is_looked and is_first2 t
    refused-4-rule2 = reply-broken d p t (length m) l 2 refl (fault-first t).two

    pub refused-4-rule3 : breaks (packet p t l m) 3 ≡ is_looked and is_first3 t
    refused-4-rule3 = reply-broken d p t (length m) l 3 refl (fault-first t).three

    pub refused-4-rule4 : breaks (packet p t l m) 4 ≡ is_looked and is_first4 t
    refused-4-rule4 = reply-broken d p t (length m) l 4 refl (fault-first t).four

    pub refused-4-rule5 : breaks (packet p t l m) 5 ≡ is_looked and is_first5 t
    refused-4-rule5 = reply-broken d p t (length m) l 5 refl (fault-first t).five

    pub refused-4-rule6 : breaks (packet p t l m) 6 ≡ is_looked and is_first6 t
    refused-4-rule6 = reply-broken d p t (length m) l 6 refl (fault-first t).six

    pub refused-4-rule7 : breaks (packet p t l m) 7 ≡ is_looked and is_first7 t
    refused-4-rule7 = reply-broken d p t (length m) l 7 refl (fault-first t).seven

    pub refused-not : gives (packet p t l m) 0 ≡ is_twelve and is_state and not is_under and not is_unfit
    refused-not = (reply-ordered d p t (length m) l).zero

    -- K9: and no other number
    pub refused-most : (answer (packet p t l m) d).number ≤ 4
    refused-most = let o = (reply-ordered d p t (length m) l).most in omega arith

  abbrev restarted : Bool → Drive
  restarted = said.restarted d

  -- K3: "Power-on with a loaded disc now leaves both attentions pending by default"; with any other drive, 01's "change attention not"
  pub refused-power : next (powering by_default) d ≡ restarted (not d.deck.tray_open and d.deck.disc_in)
  unfolding sense_at
  refused-power = power_on-with d

  -- K3: "A second form .. keeps 01's behaviour": "change attention not"
  pub refused-power-without-change : next (powering without_change) d ≡ restarted false
  unfolding sense_at
  refused-power-without-change = power_on_without_change-with d

  -- ---- "Button, laying and lifting test 2 before 5 to 7."

  -- "an open tray closes; a closed one opens, unless locked (5)"
  pub refused-button-2 : gives pressing 2 ≡ not is_state
  refused-button-2 = (press-tested d).two

  pub refused-5 : gives pressing 5 ≡ is_state and not d.deck.tray_open and d.deck.lock
  refused-5 = press-locked d

  pub refused-button-not : gives pressing 0 ≡ is_state and (d.deck.tray_open or not d.deck.lock)
  refused-button-not = (press-tested d).zero

  -- "Laying a disc needs an open tray without one (6)"
  pub refused-lay-2 : gives laying 2 ≡ not is_state
  refused-lay-2 = (lay-tested d).two

  pub refused-6 : gives laying 6 ≡ is_state and not (d.deck.tray_open and not d.deck.disc_in)
  refused-6 = (lay-tested d).next

  pub refused-lay-not : gives laying 0 ≡ is_state and d.deck.tray_open and not d.deck.disc_in
  refused-lay-not = (lay-tested d).zero

  -- "lifting needs an open tray with one (7)"
  pub refused-lift-2 : gives lifting 2 ≡ not is_state
  refused-lift-2 = (lift-tested d).two

  pub refused-7 : gives lifting 7 ≡ is_state and not (d.deck.tray_open and d.deck.disc_in)
  refused-7 = (lift-tested d).next

  pub refused-lift-not : gives lifting 0 ≡ is_state and d.deck.tray_open and d.deck.disc_in
  refused-lift-not = (lift-tested d).zero

  -- K2: "An outside call, testing 2": and nothing else
  pub refused-move-2 : (k : ℕ) → gives (moving_on k) 2 ≡ not is_state
  refused-move-2 k = (move-tested d k).two

  pub refused-move-not : (k : ℕ) → gives (moving_on k) 0 ≡ is_state
  refused-move-not k = (move-tested d k).zero

-- ---- "The session part tests fitness (4, empty part) before 10": "a session asked for is 0 or over S"

module _ (t : List ℕ) (k : ℕ) where
  abbrev part_gives : ℕ → Bool
  part_gives = said.part_gives t k

  abbrev part_breaks : ℕ → Bool
  part_breaks = said.part_breaks t k

  pub refused-part-4 : part_gives 4 ≡ not (is_fit t)
  refused-part-4 = (part_parted t k).four

  pub refused-10 : part_gives 10 ≡ is_fit t and not (leb 1 k and leb k (last_session t))
  refused-10 = (part_parted t k).ten

  pub refused-part-not : part_gives 0 ≡ is_fit t and leb 1 k and leb k (last_session t)
  refused-part-not = (part_parted t k).zero

  -- the rule is one of 1 to 7 exactly with 4, and 0 exactly with 10 and with success
  pub refused-part-rule :
      (leb 1 (part_refused t k).rule and leb (part_refused t k).rule 7 ≡ part_gives 4)
      × (eqb (part_refused t k).rule 0 ≡ not (part_gives 4))
  refused-part-rule = let b = part_beside t k in (b.one, b.none)

  pub refused-part-rule1 : part_breaks 1 ≡ is_first1 t
  refused-part-rule1 = part_broken t k 1 refl (fault-first t).one

  pub refused-part-rule2 : part_breaks 2 ≡ is_first2 t
  refused-part-rule2 = part_broken t k 2 refl (fault-first t).two

  pub refused-part-rule3 : part_breaks 3 ≡ is_first3 t
  refused-part-rule3 = part_broken t k 3 refl (fault-first t).three

  pub refused-part-rule4 : part_breaks 4 ≡ is_first4 t
  refused-part-rule4 = part_broken t k 4 refl (fault-first t).four

  pub refused-part-rule5 : part_breaks 5 ≡ is_first5 t
  refused-part-rule5 = part_broken t k 5 refl (fault-first t).five

  pub refused-part-rule6 : part_breaks 6 ≡ is_first6 t
  refused-part-rule6 = part_broken t k 6 refl (fault-first t).six

  pub refused-part-rule7 : part_breaks 7 ≡ is_first7 t
  refused-part-rule7 = part_broken t k 7 refl (fault-first t).seven

-- ---- 8: "address over 449,849, or M:S:F outside rule 6"

pub refused_8_address : (a : ℕ) → eqb (to_msf a).number 8 ≡ ltb 449849 a
refused_8_address = to_msf_number

pub refused_8_msf : (m s f : ℕ) → eqb (to_block m s f).number 8 ≡ not (leb m 99 and leb s 59 and leb f 74 and leb 150 ((m * 60 + s) * 75 + f))
unfolding is_msf
refused_8_msf = to_block_number
