-- What is due at an access decides what it comes to.
use Rattle.std.specs.Prelude.{ℕ, ◌≡◌, List}
use Rattle.std.proofs.Common.{sym}
use Rattle.drive.specs.declared.state.Drive.{Drive}
use Rattle.taskfile.specs.declared.TaskFile.{TaskFile}
use Rattle.taskfile.specs.declared.Access.{Access}
use Rattle.taskfile.specs.declared.Due.{Due}
use Rattle.taskfile.specs.declared.Turn.{Turn}
use Rattle.taskfile.specs.Host.{turn_of}
use Rattle.registers.specs.Registers.{step_by, memory_by, step_of, memory_of}

module _ (f : TaskFile) (a : Access) (v : ℕ) (d : Drive) (t m : List ℕ) (r : Turn) (k : Due) (e : r ≡ turn_of f a v) (h : r.due ≡ k) where
  -- ---- step_of

  pub step_of-due : step_by k f r.file d t m ≡ step_of f a v d t m
  unfolding step_of
  step_of-due = rw (sym h, e)

  -- ---- memory_of

  pub memory_of-due : memory_by k r.file d t m ≡ memory_of f a v d t m
  unfolding memory_of
  memory_of-due = rw (sym h, e)
