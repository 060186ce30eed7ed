-- `listing::list` meets its contract: each turn takes the next twelve bytes, and its packet meets the state that the one before left.
use Rattle.std.specs.Prelude.{◌≡◌, ℕ, List, [], ◌++◌, ◌+◌, ◌*◌, ◌≤◌, min, length, take, drop}
use Rattle.std.proofs.Common.{refl, sym, ap, ◌∙◌, true≢false, arith, append-nil, length-append, length-drop, take_all, drop-drop, drop_of_length-le, lt_of_not-le}
use Rattle.std.proofs.Math.Decide.{dec_le}
use Rattle.std.proofs.Math.Seq.{take-append_seam, drop-append_seam}
use Rattle.listing.specs.Run.{state_after}
use Rattle.listing.specs.RunLaws.{state_after-none, state_after_met}
use Rattle.listing.proofs.list.Goals as goal
use Rattle.listing.proofs.list.Goals.{After-write}

-- what std's `chunks` gives: twelve bytes, or what is left, and the rest is behind them
chunk : (p r : List ℕ) → length p ≡ min 12 (length (p ++ r)) → (p ≡ take 12 (p ++ r)) × (r ≡ drop 12 (p ++ r))
chunk p r h = elim (dec_le 12 (length (p ++ r))) [
  | yes g ↦ (let n : 12 ≡ length p = omega arith in rw n (sym (take-append_seam p r), sym (drop-append_seam p r)))
  | no g ↦ (let k = lt_of_not-le g in
      let n = length-append p r in
      let e : r ≡ [] = sym (drop-append_seam p r) ∙ drop_of_length-le (p ++ r) {i = length p} (omega arith) in
      let z : p ++ [] ≡ p = append-nil p in
      rw (e, z) (sym (take_all 12 p (omega arith)), sym (drop_of_length-le p {i = 12} (omega arith))))
]

-- so of the packets from k on the next twelve bytes come, and then those from k + 12 on
next_of :
    (xs p r : List ℕ) (k : ℕ) {rest : List ℕ} {size : ℕ} → rest ≡ drop k xs → size ≡ 12 → rest ≡ p ++ r → length p ≡ min size (length rest)
    → (p ≡ take 12 (drop k xs)) × (r ≡ drop (k + 12) xs)
next_of xs p r k a b e h =
    let f : p ++ r ≡ drop k xs = sym e ∙ a in
    let l : length p ≡ min 12 (length (p ++ r)) = rw (b, e) at h in
    let q = chunk p r l in
    (rw f at q.0, (rw f at q.1) ∙ drop-drop 12 k xs)

pub loop-p-init : goal.loop-p-init
loop-p-init c =
    rw c.into_iter-p-iterator.ensures.into_iter_gives (record {
      size = c.chunks-p-items.ensures.size;
      rest = c.chunks-p-items.ensures.rest;
      few = omega arith;
      memory = refl;
      state = c.loaded-state.ensures ∙ sym (state_after-none _ _);
    })

-- the packet's outcome holds the state after one packet more
more : (c : After-write) → c.met_by-o.result.state ≡ state_after c.args.table.now c.args.packets.now (c.loop-p.met + 1)
more c =
    let i = c.loop-p.invariant in
    let s = c.in-Some.ensures.steps in
    let q = next_of c.args.packets.now _ _ (12 * c.loop-p.met) i.rest i.size s.1.0 s.1.1 in
    state_after_met _ _ _ _ refl i.state q.0 (i.memory ∙ c.requires.1) c.met_by-o.ensures

pub loop-p-preserved : goal.loop-p-preserved
loop-p-preserved c =
    let i = c.loop-p.invariant in
    let s = c.in-Some.ensures.steps in
    let q = next_of c.args.packets.now _ _ (12 * c.loop-p.met) i.rest i.size s.1.0 s.1.1 in
    record {
      size = s.0 ∙ i.size;
      rest = q.1 ∙ ap (λ (x : ℕ). drop x c.args.packets.now) (omega arith);
      few =
          let l = length-drop (12 * c.loop-p.met) c.args.packets.now in
          let e = ap length i.rest in
          let z = s.1.2 in
          let m = c.requires in
          omega arith;
      memory = c.met_by-o.auto.mem ∙ i.memory;
      state = more (goal.at.loop-p-preserved c).After-write;
    }

pub overflow_add-met : goal.overflow_add-met
overflow_add-met c = let k = c.loop-p.invariant.few in omega arith

pub returns-then-not-write : goal.returns-then-not-write
returns-then-not-write c = (more (goal.at.returns-then-not-write c).After-write, λ e. absurd (true≢false (sym e)))

pub returns : goal.returns
returns c =
    let i = c.loop-p.invariant in
    let l = length-drop (12 * c.loop-p.met) c.args.packets.now in
    let e = ap length i.rest in
    let z = c.in-None.ensures.steps.1.0 in
    (i.state, λ _. omega arith)
