-- Any device with one memory carried along, the response memory or more: each call is lent what the one before left.
use Rattle.std.specs.Prelude.{◌≡◌, Bool, true, List, ◌∷◌, ◌++◌, ℕ, ◌<◌, length}
use Rattle.std.proofs.Common.{ap, ◌∙◌}
use Rattle.ground.specs.Tests.{◌or◌}
use Rattle.claims.specs.Telling.{power, change}
use Rattle.claims.specs.History.{Event, history, final, At}
use Rattle.claims.specs.Runs.{Pairwise, Same, agree_after}
use Rattle.claims.specs.Device.{Device}

-- the state, and what the memory holds
pub record BoardWith (B S : Type 0) : Type 0 where
  pub state : S
  pub memory : B

-- a response memory holds bytes
abbrev pub Board : Type 0 → Type 0
Board = BoardWith (List ℕ)

-- `lend` lends the memory to a call, and `left` is what the call leaves in it
module _ {B C S A : Type 0} (answer : C → S → A) (next : C → S → S) (lend : B → C → C) (left : C → A → B → B) where
  abbrev pub answer_on : C → BoardWith B S → A
  answer_on c b = answer (lend b.memory c) b.state

  abbrev pub next_on : C → BoardWith B S → BoardWith B S
  next_on c b = record { state = next (lend b.memory c) b.state; memory = left c (answer_on c b) b.memory }

module _ {B C S A : Type 0} (D : Device C S A) (lend : B → C → C) (left : C → A → B → B)
    (lend_alike : (c d : C) (m : B) → D.Alike c d → D.Alike (lend m c) (lend m d))
    (left_alike : (c d : C) (a : A) (m : B) → D.Alike c d → left c a m ≡ left d a m) where
  abbrev answers : C → BoardWith B S → A
  answers = answer_on D.answer D.next lend left

  abbrev follows : C → BoardWith B S → BoardWith B S
  follows = next_on D.answer D.next lend left

  abbrev live : BoardWith B S → Bool
  live b = D.pend power b.state or D.pend change b.state

  board-blind : (c d : C) (b : BoardWith B S) → D.Alike c d → live b ≡ true → (answers c b ≡ answers d b) × (follows c b ≡ follows d b)
  board-blind c d b a l =
      let q = D.blind (lend b.memory c) (lend b.memory d) b.state (lend_alike c d b.memory a) l in
      let m = ap (λ (x : A). left c x b.memory) q.0 ∙ left_alike c d (answers d b) b.memory a in
      (q.0, λ i. record { state = q.1 i; memory = m i })

  pub runs-carried :
      (s : BoardWith B S) (common : List C) (c : C) {cs ds : List C}
      → live (follows c (final answers follows s common)) ≡ true → Pairwise D.Alike cs ds
      → (i : ℕ) {e f : Event C (BoardWith B S) A}
      → At (history answers follows s (common ++ c ∷ cs)) i e → At (history answers follows s (common ++ c ∷ ds)) i f
      → ((j : ℕ) (g : Event C (BoardWith B S) A)
      → length common < j → j < i → At (history answers follows s (common ++ c ∷ cs)) j g → live g.new ≡ true)
      → Same e f
  runs-carried = agree_after answers follows live D.Alike board-blind
