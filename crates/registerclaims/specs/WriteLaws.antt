-- K14: data writes in packet and list runs: each lays its byte behind those before it, and moves the record one byte along.
use Rattle.std.specs.Prelude.{ℕ, zero, suc, ◌+◌, ◌-◌, ◌≤◌, ◌<◌, ◌≡◌, false, length, get_or, take, drop, set, eqb}
use Rattle.std.proofs.Math.Path.{refl, ap}
use Rattle.std.proofs.Common.{sym, ◌∙◌, arith, zero-add, add-zero, add-one, drop_of_length-le, take_all, take-suc, drop-cons, lt-ltb, ne_eqb}
use mathlib.Core.List.{List, [], ◌∷◌, ◌++◌, append-nil}
use Rattle.std.proofs.Math.Seq.{paste-suc}
use Rattle.ground.specs.Tests.{either, when, unless, and_both}
use Rattle.drive.specs.declared.state.Drive.{Drive}
use Rattle.taskfile.specs.declared.TaskFile.{TaskFile}
use Rattle.taskfile.specs.declared.Turn.{Turn}
use Rattle.taskfile.specs.declared.Phase.{Phase}
use Rattle.taskfile.specs.declared.Phase.TheVariants.{PacketRun, ListRun}
use Rattle.taskfile.specs.declared.Access.{Access}
use Rattle.taskfile.specs.declared.Access.TheVariants.{Data}
use Rattle.taskfile.specs.declared.Due.TheVariants.{PerformsListed}
use Rattle.taskfile.specs.TaskFile.{takes_packet_reason, packet_bytes, list_bytes, placed, bearing}
use Rattle.taskfile.specs.Run.{is_packet_run, is_answer_run, phase_of, left_by, left_of}
use Rattle.taskfile.specs.RunLaws.{is_list_run-other, is_packet_run-phase}
use Rattle.taskfile.specs.Host.{held, limited, gone, packet_end, packet_byte, list_byte, data_turn, turn_of}
use Rattle.registers.specs.Registers.{step_by, memory_by, step_of, memory_of}
use Rattle.registerclaims.specs.Along.{along, Listing, gone-along, along-list}
use Rattle.registerclaims.specs.Transfer.{Transfer, transfer_of, left, next, after_writes, is_taking}

-- ---- bytes laid one behind the other

-- the first j bytes of l, over what o held
abbrev pub entered : List ℕ → List ℕ → ℕ → List ℕ
entered l o j = take j l ++ drop j o

entered-next : (l o : List ℕ) (j : ℕ) → j < length l → j < length o → set (entered l o j) j (get_or l j 0) ≡ entered l o (j + 1)
entered-next l o j h k = rw (add-one j) (rw (zero-add j, zero-add (suc j)) at (paste-suc o 0 l j 0 (rw (zero-add j) k) h))

entered_all : (l o : List ℕ) (n : ℕ) → length l ≡ n → length o ≡ n → entered l o n ≡ l
entered_all l o n h k = rw (take_all n l (omega arith), drop_of_length-le o {i = n} (omega arith)) (append-nil l)

-- ---- writes

-- an access at which nothing is due changes the record alone
pub held_next : (f g : TaskFile) (x : Access) (v : ℕ) (d : Drive) (t m : List ℕ) → turn_of f x v ≡ held g → next x v t (transfer_of f d m) ≡ transfer_of g d m
unfolding step_of memory_of
held_next f g x v d t m e = ap (λ (w : Turn). left (step_by w.due f w.file d t m) (memory_by w.due w.file d t m)) e

-- writes that each lead one place on lead on as many places as they are
pub writes-after : (at : ℕ → Transfer) (l t : List ℕ) (n : ℕ) → n ≤ length l → ((j : ℕ) → j < n → next Data (get_or l j 0) t (at j) ≡ at (j + 1))
    → (i j : ℕ) → j + i ≤ n → after_writes (take i (drop j l)) t (at j) ≡ at (j + i)
unfolding after_writes
writes-after at l t n k w zero j h = ap at (sym (add-zero j))
writes-after at l t n k w (suc i) j h =
    let e : j + 1 + i ≡ j + suc i = omega arith in
    ap (λ (r : List ℕ). after_writes (take (suc i) r) t (at j)) (drop-cons l j 0 (omega arith))
    ∙ ap (after_writes (take i (drop (suc j) l)) t) (w j (omega arith))
    ∙ ap (λ (q : ℕ). after_writes (take i (drop q l)) t (at (j + 1))) (sym (add-one j))
    ∙ writes-after at l t n k w i (j + 1) (omega arith)
    ∙ ap at e

-- the last one comes behind all others
pub writes-last : (l t : List ℕ) (n : ℕ) (x : Transfer) → length l ≡ n + 1 → after_writes l t x ≡ next Data (get_or l n 0) t (after_writes (take n l) t x)
unfolding after_writes
writes-last l t n x h =
    let e : l ≡ take n l ++ (get_or l n 0 ∷ []) =
    sym (take_all (suc n) l (omega arith)) ∙ take-suc l n 0 (omega arith) in
    ap (λ (p : List ℕ). after_writes p t x) e ∙ behind (take n l) x
  where
    behind : (p : List ℕ) (x : Transfer) → after_writes (p ++ (get_or l n 0 ∷ [])) t x ≡ next Data (get_or l n 0) t (after_writes p t x)
    behind [] x = refl
    behind (v ∷ p) x = behind p (next Data v t x)

-- ---- the packet

-- j bytes into the packet's run
abbrev pub within : TaskFile → ℕ → TaskFile
within g j = placed g takes_packet_reason packet_bytes packet_bytes j

within_phase : (g : TaskFile) (j : ℕ) → j < packet_bytes → phase_of (within g j) ≡ PacketRun
unfolding is_packet_run
within_phase g j h =
    is_packet_run-phase (within g j) (and_both _ _ refl (and_both _ _ refl (and_both _ _ refl (lt-ltb j packet_bytes h))))

within-left : (g : TaskFile) (j : ℕ) → j < packet_bytes → left_of (within g j) ≡ packet_bytes - j
unfolding left_of
within-left g j h = ap (λ (s : Phase). left_by s (within g j)) (within_phase g j h) ∙ omega arith

module _ (f : TaskFile) (p : List ℕ) (x : length p ≡ packet_bytes) (y : length f.packet ≡ packet_bytes) where
  -- the record with j bytes of the packet entered
  abbrev pub asking : ℕ → TaskFile
  asking j = within (bearing f (entered p f.packet j) f.list) j

  pub asking-phase : (j : ℕ) → j < packet_bytes → phase_of (asking j) ≡ PacketRun
  asking-phase j h = within_phase (bearing f (entered p f.packet j) f.list) j h

  pub asking-left : (j : ℕ) → j < packet_bytes → left_of (asking j) ≡ packet_bytes - j
  asking-left j h = within-left (bearing f (entered p f.packet j) f.list) j h

  pub packet-turn : (j : ℕ) → j < 11 → turn_of (asking j) Data (get_or p j 0) ≡ held (asking (j + 1))
  unfolding turn_of packet_byte
  packet-turn j h =
      ap (λ (s : Phase). data_turn s (asking j) (get_or p j 0)) (asking-phase j (omega arith))
      ∙ unless _ _ _ (ne_eqb (j + 1) packet_bytes (λ e. omega arith))
      ∙ ap (λ (q : List ℕ). held (within (bearing f q f.list) (j + 1))) (entered-next p f.packet j (omega arith) (omega arith))

  pub packet-last : turn_of (asking 11) Data (get_or p 11 0) ≡ packet_end (limited (within (bearing f p f.list) 11))
  unfolding turn_of packet_byte
  packet-last =
      ap (λ (s : Phase). data_turn s (asking 11) (get_or p 11 0)) (asking-phase 11 (omega arith))
      ∙ when _ _ _ refl
      ∙ ap (λ (q : List ℕ). packet_end (limited (within (bearing f q f.list) 11)))
      (entered-next p f.packet 11 (omega arith) (omega arith) ∙ entered_all p f.packet 12 x y)

-- ---- the list

module _ (f : TaskFile) (a : Listing f) (l : List ℕ) (x : length l ≡ list_bytes) (y : length f.list ≡ list_bytes) where
  -- the record with the bytes q as its list
  abbrev pub over : List ℕ → TaskFile
  over q = bearing f f.packet q

  pub over-listing : (q : List ℕ) → Listing (over q)
  over-listing q = record { reason = a.reason; takes = a.takes; whole = a.whole; limited = a.limited }

  -- with j bytes of the list entered
  abbrev pub entering : ℕ → TaskFile
  entering j = along (over (entered l f.list j)) j

  pub entering-phase : (j : ℕ) → j < list_bytes → phase_of (entering j) ≡ ListRun
  entering-phase j h = along-list (over (entered l f.list j)) j (over-listing _) h

  pub list-turn : (j : ℕ) → j < 15 → turn_of (entering j) Data (get_or l j 0) ≡ held (entering (j + 1))
  unfolding turn_of list_byte
  list-turn j h =
      let w = a.limited.least in
      ap (λ (s : Phase). data_turn s (entering j) (get_or l j 0)) (entering-phase j (omega arith))
      ∙ unless _ _ _ (ne_eqb (j + 1) list_bytes (λ e. omega arith))
      ∙ ap (λ (q : List ℕ). held (gone (along (over q) j))) (entered-next l f.list j (omega arith) (omega arith))
      ∙ ap held (gone-along (over (entered l f.list (j + 1))) j (omega arith))

  pub list-last : turn_of (entering 15) Data (get_or l 15 0) ≡ record { due = PerformsListed; file = along (over l) 15 }
  unfolding turn_of list_byte
  list-last =
      ap (λ (s : Phase). data_turn s (entering 15) (get_or l 15 0)) (entering-phase 15 (omega arith))
      ∙ when _ _ _ refl
      ∙ ap (λ (q : List ℕ). record { due = PerformsListed; file = along (over q) 15 })
      (entered-next l f.list 15 (omega arith) (omega arith) ∙ entered_all l f.list 16 x y)

-- a record with another reason takes no list
pub untaking : (f : TaskFile) → eqb f.reason 0x00 ≡ false → is_taking (phase_of f) ≡ false
unfolding phase_of
untaking f h =
    either P (is_packet_run f) (λ e. refl) (λ e. rw (unless _ _ _ (is_list_run-other f h)) (either P (is_answer_run f) (λ e. refl) (λ e. refl)))
  where
    P : Phase → Type 0
    P s = is_taking s ≡ false
