-- K10, "How much of a disc the track list tells": what it tells, and that on a disc of one session every packet but READ TOC by format 2
-- asks for exactly that. `answer c d` and `next c d` are what the call c gets of d and the state after it, as in Call.antt; that each
-- condition on tables and packet is needed stands in TrackListNeeds.antt.
use Rattle.std.specs.Prelude.{◌≡◌, refl, Bool, true, false, List, [], map, ◌↔◌, ℕ, ◌≤◌, length, take, replicate}
use Rattle.std.proofs.Common.{sym, ap, ◌∙◌, arith, take_all}
use Rattle.std.proofs.lemmas.Bool.{false≢true}
use Rattle.std.proofs.lemmas.List.{length-replicate}
use Rattle.ground.specs.Tests.{◌and◌, ◌or◌}
use Rattle.deck.specs.declared.Deck.{Deck}
use Rattle.drive.specs.declared.state.Drive.{Drive}
use Rattle.deck.specs.Deck.{is_loaded}
use Rattle.drive.specs.State.{is_known_state}
use Rattle.table.specs.Layout.{bound}
use Rattle.disc.specs.Rules.{is_fit}
use Rattle.disc.specs.RulesLaws.{is_fit_true}
use Rattle.disc.specs.Disc.{disc_of}
use Rattle.gate.specs.Gate.{Reply}
use Rattle.outcome.specs.Outcome.{bytes_of, state_of}
use Rattle.target.specs.Packet.{answer as reply_to}
use Rattle.target.specs.PacketLaws.{answer-steps}
use Rattle.claims.specs.Telling.{Answer, answer_of}
use Rattle.claims.specs.History.{None, end, but}
use Rattle.claims.specs.Runs.{Pairwise, nil, cons, result_of, agree-throughout}
use Rattle.claims.specs.Carried.{Board, answer_on, next_on}
use Rattle.claims.specs.Call.{Call, powering, pressing, laying, lifting, moving_on, packet, answer, next, is_packet, is_attending, history, lend, lend_table, left, history_on}
use Rattle.claims.specs.Marked.{loaded_e}
use Rattle.claims.proofs.Whole.{loaded_e_known}
use Rattle.claims.proofs.WholeLaws.{steps_of-bounded}
use Rattle.claims.specs.Contents.{list_with, track_list, list_packet, contents_of, list_of, Single, Twins, is_format2, Twinned, itself, twins}
use Rattle.claims.proofs.ContentsLaws.{list-made, list_tells, list-low}
use Rattle.claims.proofs.SingleLaws.{fit-ranged, fit-numbers}
use Rattle.claims.proofs.TwinLaws.{contents-same, reply-same, steps-list}
use Rattle.claims.specs.TrackList.{SameResult, ToldAlike}

-- ---- what the track list tells

module _ (t u : List ℕ) (f : is_fit t ≡ true) (g : is_fit u ≡ true) where
  -- of two fit tables, of any sessions: their lists are equal exactly where their contents are. So the list determines the first and the
  -- last track, each track's number, ADR/control and start, and the lead-out with its ADR/control, and these determine it; by M:S:F as by
  -- blocks
  pub list-contents : (msf : Bool) → (list_with msf 0 t ≡ list_with msf 0 u) ↔ (contents_of t ≡ contents_of u)
  list-contents msf = (
    λ e. list_tells msf (contents_of t) (contents_of u) (fit-ranged (is_fit_true f)) (fit-ranged (is_fit_true g)) (sym (list-made msf 0 t) ∙ e ∙ list-made msf 0 u),
    λ e. list-made msf 0 t ∙ ap (list_of msf 0) e ∙ sym (list-made msf 0 u),
  )

  -- "block addresses": with M:S:F in their place nothing is lost
  pub list-msf : (list_with true 0 t ≡ list_with true 0 u) ↔ (track_list t ≡ track_list u)
  list-msf = (λ e. (list-contents false).1 ((list-contents true).0 e), λ e. (list-contents true).1 ((list-contents false).0 e))

module _ (msf : Bool) (t : List ℕ) (f : is_fit t ≡ true) where
  -- "N 0": with an N up to the first track in its place it is the same list
  pub list-numbered : (n : ℕ) → n ≤ (disc_of t).first → list_with msf n t ≡ list_with msf 0 t
  list-numbered n h = list-made msf n t ∙ list-low msf n (contents_of t) (fit-numbers (is_fit_true f) n (omega arith)) ∙ sym (list-made msf 0 t)

-- "For two fit tables of one session whose full format 0 answers (N 0, block addresses) are equal, every packet except READ TOC format 2,
-- met by equal loaded states with equal response memory and parameter list, gets equal answers, states and response bytes."
pub twins_packet : {t u : List ℕ} → Twins t u → ToldAlike t u
twins_packet {t} {u} w d p l m h =
    let f = w.table.fit in
    let g = w.other.fit in
    let s = contents-same w.table w.other ((list-contents t u f g false).0 w.list) in
    let e = reply-same d p t u l (length m) (λ i. record { fit = f; other = g; needs = s; format = h }) in
    (ap (answer_of m) e, ap state_of e)

-- and in a state that is not loaded every packet gets the same with any two tables: "When not loaded, the table isn't looked at."
pub unloaded_packet : (t u : List ℕ) (d : Drive) (p l m : List ℕ) → is_loaded d.deck ≡ false → SameResult (packet p t l m) (packet p u l m) d
unloaded_packet t u d p l m h =
    let e = reply-same d p t u l (length m) (λ i. absurd (false≢true (sym h ∙ i))) in (ap (answer_of m) e, ap state_of e)

-- ---- over histories

-- one call of each run
twinned-call : (c e : Call) (d : Drive) → Twinned c e → SameResult c e d
twinned-call c e d (itself b) = (refl, refl)
twinned-call c e d (twins p l m w h) = twins_packet w d p l m h

-- two runs from one state, of calls that are the same but for twins lent to packets other than format 2, agree in every answer, state and
-- response byte: over power-ons of both forms, presses, layings, liftings, loadings and outside calls
pub twins-runs : (handed : Drive) {cs ds : List Call} → Pairwise Twinned cs ds
    → map result_of (history handed cs) ≡ map result_of (history handed ds)
twins-runs handed p = agree-throughout answer next Twinned twinned-call p handed

-- and with the memory that is carried
twinned_board : (c e : Call) (b : Board Drive) → Twinned c e
    → (answer_on answer next lend left c b ≡ answer_on answer next lend left e b)
    × (next_on answer next lend left c b ≡ next_on answer next lend left e b)
twinned_board c e b (itself x) = (refl, refl)
twinned_board c e b (twins p l m w h) =
    let q = twins_packet w b.state p l b.memory h in (q.0, λ i. record { state = q.1 i; memory = (q.0 i).memory })

-- the same with one response memory carried from call to call
pub twins-runs-carried : (handed : Board Drive) {cs ds : List Call} → Pairwise Twinned cs ds
    → map result_of (history_on handed cs) ≡ map result_of (history_on handed ds)
twins-runs-carried handed p =
    agree-throughout (answer_on answer next lend left) (next_on answer next lend left) Twinned twinned_board p handed

module _ {t u : List ℕ} (w : Twins t u) where
  -- a call that is no such packet, with either table lent
  lent-twinned : (c : Call) → is_packet is_format2 c ≡ false → Twinned (lend_table t c) (lend_table u c)
  lent-twinned (powering f) h = itself (powering f)
  lent-twinned pressing h = itself pressing
  lent-twinned laying h = itself laying
  lent-twinned lifting h = itself lifting
  lent-twinned (moving_on k) h = itself (moving_on k)
  lent-twinned (packet p x l m) h = twins p l m w h

  all-twinned : {cs : List Call} → None (is_packet is_format2) cs → Pairwise Twinned (map (lend_table t) cs) (map (lend_table u) cs)
  all-twinned end = nil
  all-twinned (but {e} h n) = cons (lent-twinned e h) (all-twinned n)

  -- so any calls without such a packet, with the one table lent in one run and the other in the other
  pub twins-runs-lent : (handed : Drive) {cs : List Call} → None (is_packet is_format2) cs
      → map result_of (history handed (map (lend_table t) cs)) ≡ map result_of (history handed (map (lend_table u) cs))
  twins-runs-lent handed n = twins-runs handed (all-twinned n)

-- ---- and that it is no more than they ask for

-- READ TOC gets the track list whole, where every byte of it is asked for
pub list-given : (d : Drive) (t l : List ℕ) (n : ℕ) → is_known_state d ≡ true → is_loaded d.deck ≡ true → is_attending d ≡ false
    → is_fit t ≡ true → bound ≤ n → bytes_of (reply_to d list_packet t l n) ≡ track_list t
list-given d t l n k h a f b =
    let e = steps-list d t l h a in
    let q = ap (λ (r : Reply Deck). length r.full) e in
    let s = steps_of-bounded d list_packet t l (λ i. f) in
    ap bytes_of (answer-steps d list_packet t l n refl k b (λ i. f) ∙ e) ∙ take_all 0xFFFF (track_list t) (omega arith)

-- so on discs of one session it is exactly what they ask for: with either table they get one answer where the lists are equal, and only
-- there
pub list_exact : {t u : List ℕ} → Single t → Single u → (track_list t ≡ track_list u) ↔ ToldAlike t u
unfolding ◌and◌ ◌or◌
list_exact {t} {u} a b = (
  λ e. twins_packet (record { table = a; other = b; list = e }),
  λ h.
      let m = replicate {A = ℕ} bound 0x00 in
      let n : bound ≤ length m = let e = length-replicate {A = ℕ} bound 0x00 in omega arith in
      sym (list-given loaded_e t [] (length m) loaded_e_known refl refl a.fit n)
      ∙ ap (λ (r : Answer). take r.limit r.full) (h loaded_e list_packet [] m refl).0
      ∙ list-given loaded_e u [] (length m) loaded_e_known refl refl b.fit n,
)
