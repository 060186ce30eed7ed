-- A drive that serves the first packet and then feigns: whatever answers packets, each as `packet` promises and from the state that
-- it handed back before, gives the one run that the definition fixes, however long it is.
use Rattle.std.specs.Prelude.{◌≡◌, refl, List, [], ◌∷◌, ℕ, length}
use Rattle.std.proofs.Common.{sym, ap, ap₂, subst, ◌∙◌}
use Rattle.drive.specs.declared.state.Drive.{Drive}
use Rattle.outcome.specs.declared.Outcome.{Outcome}
use Rattle.outcome.specs.Outcome.{Answered, state_of}
use Rattle.target.specs.Packet.{answer}
use Rattle.claims.specs.Call.{Call, packet, final}
use Rattle.claims.specs.Unique.{unique_packet}

-- what a packet call is handed beside the state: its bytes, the lent table, the parameter list and the response memory
pub record Asked : Type 0 where
  pub bytes : List ℕ
  pub table : List ℕ
  pub list : List ℕ
  pub memory : List ℕ

-- what came back: the outcome, and what the memory holds then
pub record Got : Type 0 where
  pub outcome : Outcome Drive
  pub memory : List ℕ

-- the packets were answered one after the other from the state d on: each answer meets the promise of `packet`, and the next packet
-- meets the state that it handed back
pub data Served : Drive → List Asked → List Got → Type 0 where
  none : (d : Drive) → Served d [] []
  more :
      {d : Drive} {a : Asked} {qs : List Asked} {g : Got} {gs : List Got}
      → Answered (answer d a.bytes a.table a.list (length a.memory)) a.memory g.outcome g.memory
      → Served g.outcome.state qs gs
      → Served d (a ∷ qs) (g ∷ gs)

-- the state after the last answer
abbrev pub left : Drive → List Got → Drive
left d [] = d
left d (g ∷ gs) = left g.outcome.state gs

-- the packets as calls on the drive
abbrev pub calls : List Asked → List Call
calls [] = []
calls (a ∷ qs) = packet a.bytes a.table a.list a.memory ∷ calls qs

-- what came back is its outcome and its memory, and nothing else
same-got : (g h : Got) → g.outcome ≡ h.outcome → g.memory ≡ h.memory → g ≡ h
same-got g h p q = ap₂ (λ (o : Outcome Drive) (m : List ℕ). record { outcome = o; memory = m }) p q

-- two runs that answer the same packets from the same state are the same, answer by answer
pub served_once : (d : Drive) (qs : List Asked) (gs hs : List Got) → Served d qs gs → Served d qs hs → gs ≡ hs
served_once d [] [] [] r s = refl
served_once d [] [] (h ∷ hs) r s = elim s [ ]
served_once d [] (g ∷ gs) hs r s = elim r [ ]
served_once d (a ∷ qs) [] hs r s = elim r [ ]
served_once d (a ∷ qs) (g ∷ gs) [] r s = elim s [ ]
served_once d (a ∷ qs) (g ∷ gs) (h ∷ hs) (more p r) (more q s) =
    let u = unique_packet d a.bytes a.table a.list a.memory g.memory h.memory g.outcome h.outcome p q in
    let t : Served g.outcome.state qs hs = subst (λ (o : Outcome Drive). Served o.state qs hs) (sym u.0) s in
    ap₂ (λ (x : Got) (xs : List Got). x ∷ xs) (same-got g h u.0 u.1) (served_once g.outcome.state qs gs hs r t)

-- and the state that they leave is that of the drive's own history
pub served-history : (d : Drive) (qs : List Asked) (gs : List Got) → Served d qs gs → left d gs ≡ final d (calls qs)
served-history d [] [] r = refl
served-history d [] (g ∷ gs) r = elim r [ ]
served-history d (a ∷ qs) [] r = elim r [ ]
served-history d (a ∷ qs) (g ∷ gs) (more p r) =
    let e : g.outcome.state ≡ state_of (answer d a.bytes a.table a.list (length a.memory)) = ap (λ (o : Outcome Drive). o.state) p.outcome in
    served-history g.outcome.state qs gs r ∙ ap (λ (x : Drive). final x (calls qs)) e
