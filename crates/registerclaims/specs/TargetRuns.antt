-- K14: the target's answers leave in runs, of every state, packet, table, list and memory; true since an answer that has bytes passed refusal 3,
-- and claims' Whole holds it under the bound.
use Rattle.std.specs.Prelude.{ℕ, List}
use Rattle.drive.specs.declared.state.Drive.{Drive}
use Rattle.taskfile.specs.declared.TaskFile.{TaskFile}
use Rattle.taskfile.specs.declared.Access.{Access}
use Rattle.taskfile.specs.Host.{turn_of}

module _ (f : TaskFile) (x : Access) (v : ℕ) (d : Drive) (t m : List ℕ) where
  -- the record at the completing access
  abbrev pub whole : TaskFile
  whole = (turn_of f x v).file
