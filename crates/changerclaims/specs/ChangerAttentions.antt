-- Demand 3 over the changer: which attention is pending, that nothing succeeds under one, and what two runs may not tell.
use Rattle.std.specs.Prelude.{◌≡◌, true, List, ◌∷◌, ◌++◌, ℕ, ◌<◌, length}
use Rattle.changer.specs.declared.Changer.{Changer}
use Rattle.claims.specs.Telling.{Attention}
use Rattle.claims.specs.History.{Event, Standing, At}
use Rattle.changerclaims.specs.ChangerCall.{Call, Answer, Happening, history, is_attending, is_power_on, causes, tells, Board, history_on}

-- ---- "From power-on, over any calls: an attention is pending exactly when its cause happened at or since the last power-on and no later
-- answer told it."

-- its cause happened at or since the last power-on, so that no power-on is later, and no later answer told it
abbrev pub Stands : Attention → Changer → List Call → Type 0
Stands k handed calls = Standing is_power_on (causes k) (tells k) (history handed calls)

-- ---- "Two runs that differ only in the fit tables lent after a power-on or a loading agree in every answer, state and response byte up to and
-- including the answer that leaves nothing pending."

-- after calls in common and c, the calls cs and ds: the events at place i have the same answer, with the memory and the slots that it leaves, and
-- the same state after it, where each answer after c and before that place leaves an attention pending
abbrev pub AgreeUpTo : Changer → List Call → Call → List Call → List Call → Type 0
AgreeUpTo handed common c cs ds =
    (i : ℕ) (e f : Happening) → At (history handed (common ++ c ∷ cs)) i e → At (history handed (common ++ c ∷ ds)) i f
    → ((j : ℕ) (g : Happening) → length common < j → j < i → At (history handed (common ++ c ∷ cs)) j g → is_attending g.new ≡ true)
    → (e.answer ≡ f.answer) × (e.new ≡ f.new)

-- the same with one response memory and one set of slot records carried from call to call: each packet is lent what the one before left
abbrev pub AgreeCarried : Board → List Call → Call → List Call → List Call → Type 0
AgreeCarried handed common c cs ds =
    (i : ℕ) (e f : Event Call Board Answer) → At (history_on handed (common ++ c ∷ cs)) i e → At (history_on handed (common ++ c ∷ ds)) i f
    → ((j : ℕ) (g : Event Call Board Answer) → length common < j → j < i → At (history_on handed (common ++ c ∷ cs)) j g
    → is_attending g.new.state ≡ true)
    → (e.answer ≡ f.answer) × (e.new ≡ f.new)
