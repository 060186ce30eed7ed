-- `sessions::session::read_session` meets its contract: each test that fails is a part that a session has, and with none it is one.
use mathlib.Core.Path.{◌≡◌, sym, ◌∙◌}
use mathlib.Core.Bool.{Bool, false≢true}
use mathlib.Core.List.{List}
use Prim.Native.Nat.{ℕ, ◌+◌, ◌-◌, ◌/◌}
use native.Mathlib.Omega.{arith}
use Rattle.ground.specs.Number.{Byte}
use Rattle.table.specs.Layout.{row}
use Rattle.sessions.specs.Session.{first, last, tracks, b0s, c0s, size, listed, numbered}
use Rattle.sessions.specs.SessionLaws.{size-heads, size_extras, read_session_is, read_session_not}
use Rattle.sessions.proofs.session.read_session.Goals as goal
use Rattle.sessions.proofs.session.read_session.Goals.{else-listed-via-then-listed+else-numbered, else-listed-via-else-listed}

-- what the test of the descriptors told, whose first and last track were widened
told :
    (d : List ℕ) (k : ℕ) {f l f' l' : ℕ} {r b : Bool} → Byte f f' → Byte l l' → r ≡ listed d k f' (l' + 1 - f') → r ≡ b
    → listed d k f (l + 1 - f) ≡ b
told d k v w e h = rw (v.same, w.same) at (sym e ∙ h)

-- and what the test of those past the tracks told
counted :
    (d : List ℕ) (k : ℕ) {f' l' n : ℕ} {r b : Bool} → Byte (first d) f' → Byte (last d) l' → n ≡ size d
    → r ≡ numbered d k (3 + (l' + 1 - f')) (n / row - (3 + (l' + 1 - f'))) → r ≡ b → numbered d k (3 + tracks d) (b0s d + c0s d) ≡ b
counted d k v w q e h = rw (v.same, w.same, q, size_extras d) at (sym e ∙ h)

pub returns-then-d : goal.returns-then-d
returns-then-d c = let z = size-heads c.args.d.now in read_session_not _ _ (λ s. let f = s.fits in omega arith)

pub returns-then-first-lt1 : goal.returns-then-first-lt1
returns-then-first-lt1 c = read_session_not _ _ (λ s. let l = s.low in let o = s.order in let h = s.high in omega arith)

pub returns-then-last-first : goal.returns-then-last-first
returns-then-last-first c = read_session_not _ _ (λ s. let l = s.low in let o = s.order in let h = s.high in omega arith)

pub returns-then-d-bytes : goal.returns-then-d-bytes
returns-then-d-bytes c = read_session_not _ _ (λ s. let f = s.fits in omega arith)

pub listed-requires : goal.listed-requires
unfolding size
listed-requires c = (omega arith, omega arith, omega arith)

pub overflow_sub-bytes : goal.overflow_sub-bytes
unfolding size
overflow_sub-bytes c = omega arith

pub numbered-requires : goal.numbered-requires
unfolding size
numbered-requires c = omega arith

pub returns-then-numbered : goal.returns-then-numbered
returns-then-numbered c =
    rw c.session_bytes-bytes.ensures
    (read_session_is (record {
      fits = omega arith;
      low = omega arith;
      order = omega arith;
      high = omega arith;
      lists =
          told _ _ c.wide-f.ensures c.wide.ensures
          c.listed.ensures c.if-listed.true;
      numbers =
          counted _ _ c.wide-f.ensures c.wide.ensures
          c.session_bytes-bytes.ensures c.numbered.ensures
          c.if-numbered.true;
    }))

pub returns : goal.returns
returns c = read_session_not _ _ (λ s. false≢true (elim c.else-listed.branch [
  | else-listed-via-then-listed+else-numbered w ↦ sym (counted _ _ c.wide-f.ensures c.wide.ensures c.session_bytes-bytes.ensures w.numbered.ensures w.if-numbered.false) ∙ s.numbers
  | else-listed-via-else-listed w ↦ sym (told _ _ c.wide-f.ensures c.wide.ensures c.listed.ensures w.if-listed.false) ∙ s.lists
]))
