-- "Two runs that differ only in the fit tables lent after a power-on or a loading agree in every answer, state and response byte
-- up to and including the answer that leaves nothing pending."
use Rattle.std.specs.Prelude.{◌≡◌, true, List, ◌∷◌, ◌++◌, ℕ, ◌<◌, length}
use Rattle.drive.specs.declared.state.Drive.{Drive}
use Rattle.claims.specs.Telling.{Answer}
use Rattle.claims.specs.History.{Event, At}
use Rattle.claims.specs.Carried.{Board}
use Rattle.claims.specs.Call.{Call, Happening, history, is_attending, history_on}

-- after calls in common and c, the calls cs and ds: the events at place i have the same answer, with the memory that it leaves, and the same
-- state after it (K2: "demand 3's state includes the record"), where each answer after c and before that place leaves an attention pending
abbrev pub AgreeUpTo : Drive → List Call → Call → List Call → List Call → Type 0
AgreeUpTo handed common c cs ds =
    (i : ℕ) (e f : Happening) → At (history handed (common ++ c ∷ cs)) i e → At (history handed (common ++ c ∷ ds)) i f
    → ((j : ℕ) (g : Happening) → length common < j → j < i → At (history handed (common ++ c ∷ cs)) j g → is_attending g.new ≡ true)
    → (e.answer ≡ f.answer) × (e.new ≡ f.new)

-- the same with one response memory carried from call to call: each call is lent what the one before left
abbrev pub AgreeCarried : Board Drive → List Call → Call → List Call → List Call → Type 0
AgreeCarried handed common c cs ds =
    (i : ℕ) (e f : Event Call (Board Drive) Answer) → At (history_on handed (common ++ c ∷ cs)) i e → At (history_on handed (common ++ c ∷ ds)) i f
    → ((j : ℕ) (g : Event Call (Board Drive) Answer) → length common < j → j < i → At (history_on handed (common ++ c ∷ cs)) j g → is_attending g.new.state ≡ true)
    → (e.answer ≡ f.answer) × (e.new ≡ f.new)
