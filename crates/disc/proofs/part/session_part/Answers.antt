-- `disc::part::session_part` meets its contract: an accepted session begins where `starts_after` says and is as long as its descriptors make it, both in the table.
use mathlib.Core.List.{List}
use mathlib.Core.Path.{◌≡◌, refl, sym, ap, ◌∙◌}
use Prim.Native.Nat.{ℕ, ◌+◌, ◌-◌, ◌≤◌}
use native.Mathlib.Omega.{arith}
use native.Mathlib.Nat.{zero-add, add-sub_cancel_left}
use lib.ListN.{length, take, drop, length-drop}
use Rattle.ground.specs.Memory.{rest_all}
use Rattle.table.specs.Layout.{descriptors}
use Rattle.sessions.specs.Session.{size, starts}
use Rattle.sessions.specs.SessionLaws.{IsSession, size-within}
use Rattle.disc.specs.RulesLaws.{fit_sized, fit-starts, fit-session}
use Rattle.disc.specs.Part.{part_refusal}
use Rattle.disc.specs.PartLaws.{Given, part_refusal-given, part_refused_number, refusal_none, refusal_some, part_start-given, part_size-given, part_start-refused, part_size-refused, rest-rest}
use borrow.Author.Rules.{rules}
use Rattle.disc.proofs.part.session_part.Goals as goal
use Rattle.disc.proofs.part.session_part.Goals.{Else-is_some, After-starts_after-from, After-session_bytes-bytes}

given : (c : Else-is_some) → Given c.args.t.now c.args.k
given c = part_refusal-given _ _ (sym (part_refused_number _ _ c.session_refusal.ensures) ∙ refusal_none _ c.if-is_some.ensures)

-- where the session begins, and that it is one
from : (c : After-starts_after-from) → c.starts_after-from.result ≡ starts (descriptors c.args.t.now) (c.args.k - 1)
from c = rw rest_all at c.starts_after-from.ensures

begins : (c : After-starts_after-from) → c.starts_after-from.result ≤ length (drop 4 c.args.t.now)
begins c =
    rw (from c)
    (let g = part_refusal-given _ _ (sym (part_refused_number _ _ c.session_refusal.ensures) ∙ refusal_none _ c.if-is_some.ensures) in
    fit-starts g.fit _ (omega arith))

within : (c : After-starts_after-from) → c.starts_after-from.result ≤ length (take (length c.args.t.now - 4) (drop 4 c.args.t.now))
within c = rw rest_all (begins c)

here : (c : After-starts_after-from) → IsSession (c.args.k - 1 + 1) (drop c.starts_after-from.result (drop 4 c.args.t.now))
here c =
    rw (from c)
    (let g = part_refusal-given _ _ (sym (part_refused_number _ _ c.session_refusal.ensures) ∙ refusal_none _ c.if-is_some.ensures) in
    fit-session g.fit (omega arith))

-- how long it is
bytes :
    (c : After-session_bytes-bytes)
    → c.session_bytes-bytes.result ≡ size (drop c.starts_after-from.result (drop 4 c.args.t.now))
bytes c = rw rest-rest at c.session_bytes-bytes.ensures

-- and it ends in the table
ends :
    (t : List ℕ) {k at b : ℕ} → Given t k → at ≤ length (drop 4 t) → IsSession (k - 1 + 1) (drop at (drop 4 t))
    → b ≡ size (drop at (drop 4 t)) → 4 + at + b ≤ length t
ends t {at = at} g w h e =
    let f = size-within at (drop 4 t) w h in
    let l = length-drop 4 t in
    let s = (fit_sized g.fit).least in omega arith

pub slice_bounds-d-count : goal.slice_bounds-d-count
slice_bounds-d-count c = (fit_sized (given (goal.at.slice_bounds-d-count c).Else-is_some).fit).least

pub slice_bounds-d-start : goal.slice_bounds-d-start
slice_bounds-d-start c = let l = fit_sized (given (goal.at.slice_bounds-d-start c).Else-is_some).fit in search rules

pub overflow_sub-k : goal.overflow_sub-k
overflow_sub-k c = let g = given (goal.at.overflow_sub-k c).Else-is_some in search rules

pub slice_bounds-session_bytes-count : goal.slice_bounds-session_bytes-count
slice_bounds-session_bytes-count c = within (goal.at.slice_bounds-session_bytes-count c).After-starts_after-from

pub slice_bounds-session_bytes-start : goal.slice_bounds-session_bytes-start
slice_bounds-session_bytes-start c = let w = within (goal.at.slice_bounds-session_bytes-start c).After-starts_after-from in search rules

pub overflow_add-at : goal.overflow_add-at
overflow_add-at c =
    let a = (goal.at.overflow_add-at c).After-starts_after-from in
    let e = ends c.args.t.now (given (goal.at.overflow_add-at c).Else-is_some) (begins a) (here a)
    (bytes (goal.at.overflow_add-at c).After-session_bytes-bytes) in
    search rules

pub overflow_add-result : goal.overflow_add-result
overflow_add-result c =
    let a = (goal.at.overflow_add-result c).After-starts_after-from in
    let e = ends c.args.t.now (given (goal.at.overflow_add-result c).Else-is_some) (begins a) (here a)
    (bytes (goal.at.overflow_add-result c).After-session_bytes-bytes) in
    search rules

pub slice_bounds-result-end-2 : goal.slice_bounds-result-end-2
slice_bounds-result-end-2 c =
    let a = (goal.at.slice_bounds-result-end-2 c).After-starts_after-from in
    let e = ends c.args.t.now (given (goal.at.slice_bounds-result-end-2 c).Else-is_some) (begins a) (here a)
    (bytes (goal.at.slice_bounds-result-end-2 c).After-session_bytes-bytes) in
    search rules

pub returns : goal.returns
returns c =
    let n = sym (part_refused_number _ _ c.session_refusal.ensures) ∙ refusal_none _ c.if-is_some.ensures in let a = ap (λ (x : ℕ). 4 + x) (from (goal.at.returns c).After-starts_after-from) ∙
    part_start-given _ _ n in let b = bytes (goal.at.returns c).After-session_bytes-bytes ∙ ap (λ (x : ℕ). size (drop x (drop 4
    c.args.t.now))) (from (goal.at.returns c).After-starts_after-from) ∙ part_size-given
    _ _ n in rw (sym a, sym b) (record { block = refl; offset = refl; shows = rw add-sub_cancel_left })

pub returns-then-is_some : goal.returns-then-is_some
returns-then-is_some c =
    let n : part_refusal c.args.t.now c.args.k ≡ 0 → ⊥ = λ e.
    refusal_some _ c.if-is_some.ensures (part_refused_number _ _ c.session_refusal.ensures ∙ e) in rw (
      sym (part_start-refused _ _ n),
      sym (part_size-refused _ _
          n),
    ) (record { block = refl; offset = sym (zero-add _); shows = refl })
