-- "Two runs that differ only in the fit tables lent after a power-on or a loading agree in every answer, state and response byte
-- up to and including the answer that leaves nothing pending."
use Rattle.std.specs.Prelude.{◌≡◌, true, List, ◌∷◌, ◌++◌, length}
use Rattle.drive.specs.declared.state.Drive.{Drive}
use Rattle.claims.specs.Runs.{Pairwise, pairwise_map, runs_long}
use Rattle.claims.specs.Carried.{Board, runs-carried}
use Rattle.claims.specs.Call.{Call, answer, next, event, history, final, is_cause, Alike, same, tables, Sharing, itself, fitting, lend, left, final_on}
use Rattle.claims.specs.Device.{runs}
use Rattle.claims.proofs.DriveDevice.{drive, cause_attends, lend_alike, left_alike}
use Rattle.claims.specs.TwoRuns.{AgreeUpTo, AgreeCarried}

-- ---- up to that answer the runs agree even where the parameter lists differ: of any two lists, with one table or two fit ones

pub two_runs_lists : (handed : Drive) (common : List Call) (c : Call) → is_cause (event c (final handed common)) ≡ true
    → {cs ds : List Call} → Pairwise Alike cs ds → AgreeUpTo handed common c cs ds
two_runs_lists handed common c h p i e f = runs drive handed common c (cause_attends c (final handed common) h) p i

pub two_runs_lists-carried : (handed : Board Drive) (common : List Call) (c : Call)
    → is_cause (event (lend (final_on handed common).memory c) (final_on handed common).state) ≡ true
    → {cs ds : List Call} → Pairwise Alike cs ds → AgreeCarried handed common c cs ds
two_runs_lists-carried handed common c h p i e f =
    runs-carried drive lend left lend_alike left_alike handed common c
    (cause_attends (lend (final_on handed common).memory c) (final_on handed common).state h) p i

-- and the second run has an event at each place where the first has one
pub two_runs_long : (handed : Drive) (common : List Call) (c : Call) {cs ds : List Call} → Pairwise Alike cs ds
    → length (history handed (common ++ c ∷ cs)) ≡ length (history handed (common ++ c ∷ ds))
two_runs_long handed common c p = runs_long answer next handed common c p

-- ---- K4: "Demand 3's two runs share the lent parameter list"

sharing_alike : (c e : Call) → Sharing c e → Alike c e
sharing_alike c e (itself b) = same b
sharing_alike c e (fitting p l m f g) = tables p m f g

-- calls that share their lists are alike, one by one
shared : {cs ds : List Call} → Pairwise Sharing cs ds → Pairwise Alike cs ds
shared = pairwise_map sharing_alike

-- calls in common, then c, a power-on in either form or a loading, then calls that are alike, one by one, but for the fit tables lent
pub two_runs : (handed : Drive) (common : List Call) (c : Call) → is_cause (event c (final handed common)) ≡ true
    → {cs ds : List Call} → Pairwise Sharing cs ds → AgreeUpTo handed common c cs ds
two_runs handed common c h p = two_runs_lists handed common c h (shared p)

pub two-runs-carried : (handed : Board Drive) (common : List Call) (c : Call)
    → is_cause (event (lend (final_on handed common).memory c) (final_on handed common).state) ≡ true
    → {cs ds : List Call} → Pairwise Sharing cs ds → AgreeCarried handed common c cs ds
two-runs-carried handed common c h p = two_runs_lists-carried handed common c h (shared p)
