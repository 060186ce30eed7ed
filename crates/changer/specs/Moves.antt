-- What becomes of the slots: it is written in two places, or nothing is.
use Rattle.std.specs.Prelude.{ℕ, ◌≤◌, ◌<◌, ◌≡◌, refl, Option, Some, None, List, set}
use Rattle.std.proofs.Common.{◌∙◌, arith, set-set}
use Rattle.changer.specs.declared.Slot.{Slot}
use Rattle.changer.specs.declared.Moves.{Moves}

-- two places change, or none
unfoldable pub settled : List Slot → Option Moves → List Slot
settled l None = l
settled l (Some m) = set (set l m.a m.x) m.b m.y

-- the two places are places
abbrev pub Within : Option Moves → ℕ → Type 0
Within None n = Unit {0}
Within (Some m) n = (m.a < n) × (m.b < n)

abbrev pub staying : Option Moves
staying = None

abbrev pub moving : ℕ → Slot → ℕ → Slot → Option Moves
moving a x b y = Some (record { a = a; x = x; b = b; y = y })

-- ---- laws

pub within-staying : (n : ℕ) → Within staying n
within-staying n = tt

pub within-moving : {a b n : ℕ} (x y : Slot) → a < n → b < n → Within (moving a x b y) n
within-moving x y h g = (h, g)

-- among more slots too
pub within-more : (m : Option Moves) {n k : ℕ} → n ≤ k → Within m n → Within m k
within-more None h w = tt
within-more (Some m) h w = let a = w.0 in let b = w.1 in (omega arith, omega arith)

pub settled_still : (l : List Slot) (m : Option Moves) → m ≡ None → settled l m ≡ l
unfolding settled
settled_still l m h = rw h refl

pub settled-moving : (l : List Slot) (a : ℕ) (x : Slot) (b : ℕ) (y : Slot) → settled l (moving a x b y) ≡ set (set l a x) b y
unfolding settled
settled-moving l a x b y = refl

-- one place, written twice
pub settled-one : (l : List Slot) (a : ℕ) (x : Slot) → settled l (moving a x a x) ≡ set l a x
settled-one l a x = settled-moving l a x a x ∙ set-set l a x x
