-- "For any input a public function's promise leaves one possible result, one next state and one content of each lent memory, refusals as well."
-- A law for each public function of the registers, by its name: two results that meet its promise are equal.
use Rattle.std.specs.Prelude.{◌≡◌, List, ℕ}
use Rattle.claims.specs.Unique.{value_once}
use Rattle.drive.specs.declared.state.Drive.{Drive}
use Rattle.drive.specs.declared.state.Moved.{Moved}
use Rattle.drive.specs.State.{power_on, power_on_without_change, button, lay, lift, move_on}
use Rattle.taskfile.specs.declared.TaskFile.{TaskFile}
use Rattle.taskfile.specs.declared.Phase.{Phase}
use Rattle.taskfile.specs.declared.Access.{Access}
use Rattle.taskfile.specs.declared.Turn.{Turn}
use Rattle.taskfile.specs.TaskFile.{started}
use Rattle.taskfile.specs.Run.{limit_of, phase_of, left_of}
use Rattle.taskfile.specs.Host.{access_of, answered, turn_of}
use Rattle.registers.specs.declared.Answer.{Answer}
use Rattle.registers.specs.declared.Stepped.{Stepped}
use Rattle.registers.specs.Registers.{step_of, memory_of}

-- ---- taskfile

pub unique-started : (r s : TaskFile) → r ≡ started → s ≡ started → r ≡ s
unique-started r s = value_once

pub unique_limit_of : (c r s : ℕ) → r ≡ limit_of c → s ≡ limit_of c → r ≡ s
unique_limit_of c r s = value_once

pub unique-left_of : (f : TaskFile) (r s : ℕ) → r ≡ left_of f → s ≡ left_of f → r ≡ s
unique-left_of f r s = value_once

pub unique_phase_of : (f : TaskFile) (r s : Phase) → r ≡ phase_of f → s ≡ phase_of f → r ≡ s
unique_phase_of f r s = value_once

pub unique_access_of : (n : ℕ) (r s : Access) → r ≡ access_of n → s ≡ access_of n → r ≡ s
unique_access_of n r s = value_once

pub unique-answered : (f : TaskFile) (status len : ℕ) (r s : TaskFile) → r ≡ answered f status len → s ≡ answered f status len → r ≡ s
unique-answered f status len r s = value_once

pub unique-turn_of : (f : TaskFile) (a : Access) (v : ℕ) (r s : Turn) → r ≡ turn_of f a v → s ≡ turn_of f a v → r ≡ s
unique-turn_of f a v r s = value_once

-- ---- registers

module _ (f : TaskFile) (a v : ℕ) (d : Drive) (t m : List ℕ) where
  -- what the interrupt routine hands back, what the record is then, and what the response memory holds then
  pub unique-vosklubec-interrupt : (r s : Answer) (f₁ f₂ : TaskFile) (m₁ m₂ : List ℕ)
      → (r ≡ (step_of f (access_of a) v d t m).answer) × (f₁ ≡ (step_of f (access_of a) v d t m).file) × (m₁ ≡ memory_of f (access_of a) v d t m)
      → (s ≡ (step_of f (access_of a) v d t m).answer) × (f₂ ≡ (step_of f (access_of a) v d t m).file) × (m₂ ≡ memory_of f (access_of a) v d t m)
      → (r ≡ s) × (f₁ ≡ f₂) × (m₁ ≡ m₂)
  unique-vosklubec-interrupt r s f₁ f₂ m₁ m₂ p q = (value_once p.0 q.0, value_once p.1 q.1, value_once p.2 q.2)

  -- the same by value
  pub unique-interrupt-on : (r s : Stepped) (m₁ m₂ : List ℕ)
      → (r ≡ step_of f (access_of a) v d t m) × (m₁ ≡ memory_of f (access_of a) v d t m)
      → (s ≡ step_of f (access_of a) v d t m) × (m₂ ≡ memory_of f (access_of a) v d t m)
      → (r ≡ s) × (m₁ ≡ m₂)
  unique-interrupt-on r s m₁ m₂ p q = (value_once p.0 q.0, value_once p.1 q.1)

pub unique_vosklubec-started : (r s : TaskFile) → r ≡ started → s ≡ started → r ≡ s
unique_vosklubec-started r s = value_once

pub unique_vosklubec_power_on : (d r s : Drive) → r ≡ power_on d → s ≡ power_on d → r ≡ s
unique_vosklubec_power_on d r s = value_once

pub unique_vosklubec_power_on_without_change : (d r s : Drive) → r ≡ power_on_without_change d → s ≡ power_on_without_change d → r ≡ s
unique_vosklubec_power_on_without_change d r s = value_once

pub unique_vosklubec-button : (d : Drive) (r s : Moved) → r ≡ button d → s ≡ button d → r ≡ s
unique_vosklubec-button d r s = value_once

pub unique_vosklubec-lay : (d : Drive) (r s : Moved) → r ≡ lay d → s ≡ lay d → r ≡ s
unique_vosklubec-lay d r s = value_once

pub unique_vosklubec-lift : (d : Drive) (r s : Moved) → r ≡ lift d → s ≡ lift d → r ≡ s
unique_vosklubec-lift d r s = value_once

pub unique_vosklubec_move_on : (k : ℕ) (d : Drive) (r s : Moved) → r ≡ move_on k d → s ≡ move_on k d → r ≡ s
unique_vosklubec_move_on k d r s = value_once
