-- The records that calls make: each run begins, and goes on, along its transfer, with its size in the byte count.
use Rattle.std.specs.Prelude.{ℕ, zero, suc, ◌+◌, ◌≤◌, ◌<◌, ◌≡◌, refl, false, List, [], length, get_or, eqb, ltb}
use Rattle.std.proofs.Common.{sym, ◌∙◌, arith}
use Rattle.std.proofs.Math.Path.{ap}
use Rattle.std.proofs.Math.Bool.{true}
use Rattle.std.proofs.Math.Decide.{ℕ_discrete}
use borrow.Author.Tests.{eqb-true, eqb-false, ltb-true, lt-ltb}
use Rattle.std.proofs.Math.ListN.{length-set}
use Rattle.ground.specs.Tests.{◌and◌, either, and_head, and_tail, and_both}
use Rattle.drive.specs.declared.state.Drive as drive
use Rattle.table.specs.Layout.{bound}
use Rattle.outcome.specs.Outcome.{outcome_of}
use Rattle.claims.specs.Call.{packet}
use Rattle.claims.proofs.Whole.{answers-bounded}
use Rattle.taskfile.specs.declared.TaskFile.{TaskFile}
use Rattle.taskfile.specs.declared.Phase.TheVariants.{PacketRun, ListRun, AnswerRun}
use Rattle.taskfile.specs.declared.Access.{Access}
use Rattle.taskfile.specs.declared.Access.TheVariants.{Data, Features, CountLow, CountHigh, Drive, Command, Nowhere, Read, Reset}
use Rattle.taskfile.specs.declared.Due.{Due}
use Rattle.taskfile.specs.declared.Due.TheVariants.{Refused, Held, Performs, PerformsListed, Gives, Resets}
use Rattle.taskfile.specs.declared.Turn.{Turn}
use Rattle.taskfile.specs.TaskFile.{count_of, placed, asked, ended, reset}
use Rattle.taskfile.specs.Run.{takes_list, is_packet_run, phase_of}
use Rattle.taskfile.specs.RunLaws.{Run, is_packet, phase_of-tested, is_packet_run-phase, phase_of-list-run, phase_of-answer-run, phase_of-idle}
use Rattle.taskfile.specs.Host.{limited, passed, begun, gone, answered, written, turn_of}
use Rattle.taskfile.specs.HostLaws.{packed, listed, turn_of-ways}
use Rattle.registers.specs.declared.Stepped.{Stepped}
use Rattle.registers.specs.Registers.{plain, stands, asks, gives, step_by, step_of}
use Rattle.registerclaims.specs.RegisterLimit.{Limit, limit_limit}
use Rattle.registerclaims.specs.RegisterRecord.{reason_of, Made}
use Rattle.registerclaims.specs.Along.{along, Answering, Listing, begun-along, run-gone, along-answer, along-list, answer-answering, list_listing}
use Rattle.registerclaims.specs.RegisterRuns.{showing, answer-none, answering, answer_some}

-- ---- made records

-- ready to be answered: the lengths, the byte count's bytes and a limit
pub record Ready (g : TaskFile) : Type 0 where
  pub packet : length g.packet ≡ 12
  pub list : length g.list ≡ 16
  pub low : g.low < 256
  pub high : g.high < 256
  pub limit : Limit g.limit

-- what the turn has to leave, by what is due
abbrev pub MadeBy : Due → TaskFile → Type 0
MadeBy Refused g = Made g
MadeBy Held g = Made g
MadeBy Performs g = Ready g
MadeBy PerformsListed g = Ready g
MadeBy Gives g = Made g
MadeBy Resets g = Made g

abbrev MadeTurn : Turn → Type 0
MadeTurn T = MadeBy T.due T.file

-- status has ended the transfer
pub idle-made : (g : TaskFile) → length g.packet ≡ 12 → length g.list ≡ 16 → g.low < 256 → g.high < 256 → g.reason ≡ 3 → Made g
idle-made g p l a b r =
    record { packet = p; list = l; low = a; high = b; reason = r ∙ ap reason_of (sym (phase_of-idle g r)) }

-- in a run of list or answer
along-made : (f : TaskFile) (j : ℕ) → length f.packet ≡ 12 → length f.list ≡ 16 → f.reason ≡ reason_of (phase_of (along f j)) → Made (along f j)
along-made f j p l r = record { packet = p; list = l; low = omega arith; high = omega arith; reason = r }

list-along-made : (f : TaskFile) (j : ℕ) → length f.packet ≡ 12 → length f.list ≡ 16 → Listing f → j < 16 → Made (along f j)
list-along-made f j p l a h = along-made f j p l (a.reason ∙ ap reason_of (sym (along-list f j a h)))

answer-along-made : (f : TaskFile) (j : ℕ) → length f.packet ≡ 12 → length f.list ≡ 16 → Answering f → j < f.len → Made (along f j)
answer-along-made f j p l a h = along-made f j p l (a.reason ∙ ap reason_of (sym (along-answer f j a h)))

begun-list : (g : TaskFile) → Ready g → takes_list g.packet ≡ true → Made (begun g 0 16)
begun-list g r t =
    rw (begun-along g 0 16)
    (list-along-made (placed g 0 g.limit 16 0) 0 r.packet r.list (record { reason = refl; takes = t; whole = refl; limited = r.limit }) (omega arith))

-- the target's answer makes a made record
pub answered-made : (g : TaskFile) (s n : ℕ) → Ready g → n ≤ 6538 → Made (answered g s n)
answered-made g s zero r h = rw (answer-none g s) (idle-made (ended (showing g s)) r.packet r.list r.low r.high refl)
answered-made g s (suc n) r h =
    rw (answer_some g s (suc n) (omega arith))
    (answer-along-made (answering g s (suc n)) 0 r.packet r.list (record { reason = refl; fits = h; limited = r.limit }) (omega arith))

-- there is a next byte
next_inside : (i n : ℕ) → i < n → eqb (i + 1) n ≡ false → i + 1 < n
next_inside i n h z = elim (ℕ_discrete (i + 1) n) [ yes e ↦ absurd (eqb-false (i + 1) n z e) | no e ↦ omega arith ]

-- PACKET is asked for
asked_packet : (f : TaskFile) → is_packet_run (asked f) ≡ true
unfolding is_packet_run ◌and◌
asked_packet f = refl

-- reset makes a made record of any that has the arrays' lengths
pub reset-made : (f : TaskFile) → length f.packet ≡ 12 → length f.list ≡ 16 → Made (reset f)
reset-made f p l = idle-made (reset f) p l (omega arith) (omega arith) refl

module _ (f : TaskFile) (v : ℕ) (M : Made f) where
  -- in a packet run
  module _ (s : phase_of f ≡ PacketRun) where
    packet-ready : Ready (limited (packed f v))
    packet-ready = record {
      packet = length-set f.packet f.at v ∙ M.packet;
      list = M.list;
      low = M.low;
      high = M.high;
      limit = limit_limit (count_of f) (let a = M.low in let b = M.high in omega arith);
    }

    packet-passed : eqb (f.at + 1) 12 ≡ false → Made (passed (packed f v))
    unfolding is_packet_run
    packet-passed z =
        let h = (phase_of-tested f).packet ∙ ap is_packet s in
        let r = and_head _ _ h in
        let a = and_tail _ _ h in
        let b = and_tail _ _ a in
        let i = next_inside f.at 12 (ltb-true f.at 12 (and_tail _ _ b)) z in
        let e : is_packet_run (passed (packed f v)) ≡ true =
        and_both _ _ r (and_both _ _ (and_head _ _ a) (and_both _ _ (and_head _ _ b) (lt-ltb (f.at + 1) 12 i))) in
        record {
          packet = length-set f.packet f.at v ∙ M.packet;
          list = M.list;
          low = M.low;
          high = M.high;
          reason = eqb-true f.reason 1 r ∙ ap reason_of (sym (is_packet_run-phase (passed (packed f v)) e));
        }

  -- in a list run
  module _ (s : phase_of f ≡ ListRun) where
    list-listed : Listing (listed f v)
    list-listed = let a = list_listing f s in record { reason = a.reason; takes = a.takes; whole = a.whole; limited = a.limited }

    list-run : Run (listed f v)
    list-run = let r = phase_of-list-run f s in record { limit = r.limit; next = r.next; count = r.count }

    list-ready : Ready (listed f v)
    list-ready = record {
      packet = M.packet;
      list = length-set f.list f.at v ∙ M.list;
      low = M.low;
      high = M.high;
      limit = list-listed.limited;
    }

    list-gone : eqb (f.at + 1) 16 ≡ false → Made (gone (listed f v))
    list-gone z =
        let i = next_inside f.at 16 (rw list-listed.whole at list-run.next) z in
        rw (run-gone (listed f v) list-run M.low M.high) (list-along-made (listed f v) (f.at + 1) M.packet list-ready.list list-listed i)

  -- in an answer run
  module _ (s : phase_of f ≡ AnswerRun) where
    answer-gone : eqb (f.at + 1) f.len ≡ false → Made (gone f)
    answer-gone z =
        let r = phase_of-answer-run f s in
        let i = next_inside f.at f.len r.next z in
        rw (run-gone f r M.low M.high) (answer-along-made f (f.at + 1) M.packet M.list (answer-answering f s) i)

  -- while idle
  module _ (small : v < 256) (h : f.reason ≡ 3) where
    written-made : (a : Access) → Made (written f a v)
    written-made Data = M
    written-made Features = idle-made _ M.packet M.list M.low M.high h
    written-made CountLow = idle-made _ M.packet M.list small M.high h
    written-made CountHigh = idle-made _ M.packet M.list M.low small h
    written-made Drive = idle-made _ M.packet M.list M.low M.high h
    written-made Command = M
    written-made Nowhere = M
    written-made Read = M
    written-made Reset = M

  asked-made : Made (asked f)
  asked-made = record {
    packet = M.packet;
    list = M.list;
    low = M.low;
    high = M.high;
    reason = ap reason_of (sym (is_packet_run-phase (asked f) (asked_packet f)));
  }

  pub turn-made : v < 256 → (a : Access) → MadeTurn (turn_of f a v)
  turn-made small = turn_of-ways f v {P = MadeTurn} (record {
    refuses = M;
    holds = λ a s. written-made small (M.reason ∙ ap reason_of s) a;
    asks = λ s. asked-made;
    takes = packet-passed;
    asks_list = λ s t. begun-list (limited (packed f v)) (packet-ready s) t;
    performs = packet-ready;
    enters = list-gone;
    performs_listed = list-ready;
    gives_last = λ s. idle-made (ended f) M.packet M.list M.low M.high refl;
    gives_more = answer-gone;
    powers_on = reset-made f M.packet M.list;
  })

-- ---- a step

pub step-made : (f : TaskFile) (a : Access) (v : ℕ) (d : drive.Drive) (t m : List ℕ) → Made f → v < 256 → Made (step_of f a v d t m).file
unfolding step_of gives
step-made f a v d t m M small = go (turn_of f a v).due (turn_of f a v).file (turn-made f v M small a)
  where
    bounded : (g : TaskFile) (l : List ℕ) → (outcome_of (asks g l d t m)).len ≤ 6538
    bounded g l = let b = answers-bounded (packet g.packet t l m) d in omega arith

    go : (e : Due) (g : TaskFile) → MadeBy e g → Made (step_by e f g d t m).file
    go Refused g k = k
    go Held g k = k
    go Performs g k = answered-made g _ _ k (bounded g [])
    go PerformsListed g k = answered-made g _ _ k (bounded g g.list)
    go Gives g k =
        either (λ (x : Stepped). Made x.file) (ltb (length m) bound)
        {x = stands f (plain 3 0 d)} {y = stands g (plain 0 (get_or m f.at 0) d)}
        (λ z. M) (λ z. k)
    go Resets g k = k
