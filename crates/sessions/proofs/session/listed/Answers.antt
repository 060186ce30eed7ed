-- `sessions::session::listed` meets its contract: the four tests are the definition's, in its order.
use Rattle.std.proofs.Common.{◌≡◌, sym, ap, ◌∙◌, ℕ, Bool}
use Rattle.ground.specs.Number.{Byte}
use Rattle.ground.specs.Tests.{◌and◌, and_on, and_off, and_four}
use Rattle.table.specs.Layout.{A0, A1, A2}
use Rattle.table.specs.declared.row.Row.{Row}
use Rattle.table.specs.Row.{row_at, names}
use Rattle.sessions.specs.Session.{listed}
use Rattle.sessions.proofs.session.listed.Goals as goal
use Rattle.sessions.proofs.session.listed.Goals.{then-named, else-named, then-named-2, else-named-2}

-- what a test of a descriptor told, whose POINT was widened
told : (s : Row) (k : ℕ) {p q : ℕ} {r : Bool} → Byte p q → r ≡ names s k q → r ≡ names s k p
told s k w e = e ∙ ap (names s k) w.same

pub returns-then-named-3 : goal.returns-then-named-3
unfolding listed
returns-then-named-3 c =
    let d = c.args.d.now in
    let k = c.args.k in
    let zero = told (row_at d 0) k c.wide.ensures c.named.ensures in
    let one : c.if-named.value ≡ names (row_at d 0) k A0 and names (row_at d 1) k A1 = elim c.if-named.branch [
      | then-named w ↦ and_on _ _ (sym zero ∙ w.if-named.true) (w.value-is ∙ told _ _ w.wide-then-named.ensures w.named-then-named.ensures)
      | else-named w ↦ w.value-is ∙ w.if-named.false ∙ and_off _ _ (sym zero ∙ w.if-named.false)
    ] in
    let two : c.if-named-2.value ≡ c.if-named.value and names (row_at d 2) k A2 = elim c.if-named-2.branch [
      | then-named-2 w ↦ and_on _ _ w.if-named-2.true (w.value-is ∙ told _ _ w.wide-then-named-2.ensures w.named-then-named-2.ensures)
      | else-named-2 w ↦ w.value-is ∙ w.if-named-2.false ∙ and_off _ _ w.if-named-2.false
    ] in
    and_four _ _ _ _ one two (and_on _ _ c.if-named-3.true c.lists_tracks.ensures)

pub returns-else-named-3 : goal.returns-else-named-3
unfolding listed
returns-else-named-3 c =
    let d = c.args.d.now in
    let k = c.args.k in
    let zero = told (row_at d 0) k c.wide.ensures c.named.ensures in
    let one : c.if-named.value ≡ names (row_at d 0) k A0 and names (row_at d 1) k A1 = elim c.if-named.branch [
      | then-named w ↦ and_on _ _ (sym zero ∙ w.if-named.true) (w.value-is ∙ told _ _ w.wide-then-named.ensures w.named-then-named.ensures)
      | else-named w ↦ w.value-is ∙ w.if-named.false ∙ and_off _ _ (sym zero ∙ w.if-named.false)
    ] in
    let two : c.if-named-2.value ≡ c.if-named.value and names (row_at d 2) k A2 = elim c.if-named-2.branch [
      | then-named-2 w ↦ and_on _ _ w.if-named-2.true (w.value-is ∙ told _ _ w.wide-then-named-2.ensures w.named-then-named-2.ensures)
      | else-named-2 w ↦ w.value-is ∙ w.if-named-2.false ∙ and_off _ _ w.if-named-2.false
    ] in
    and_four _ _ _ _ one two (c.if-named-3.false ∙ and_off _ _ c.if-named-3.false)
