-- What an access comes to, of every record: read off the ways out of `turn_of`.
use Rattle.std.specs.Prelude.{ℕ, ◌+◌, ◌%◌, ◌≡◌, refl, Bool, length, set, eqb}
use Rattle.std.proofs.Common.{◌∙◌, arith, length-set}
use Rattle.std.proofs.Math.Bool.{true, false, not}
use Rattle.std.proofs.lemmas.Bool.{false≢true}
use Rattle.ground.specs.Tests.{◌and◌, ◌or◌, choose◌then◌else◌, either}
use Rattle.claims.proofs.UnitLaws.{or-none}
use Rattle.taskfile.specs.declared.TaskFile.{TaskFile}
use Rattle.taskfile.specs.declared.Phase.{Phase}
use Rattle.taskfile.specs.declared.Phase.TheVariants.{Idle, PacketRun, ListRun, AnswerRun}
use Rattle.taskfile.specs.declared.Access.{Access}
use Rattle.taskfile.specs.declared.Access.TheVariants.{Data, Features, CountLow, CountHigh, Drive, Command, Nowhere, Read, Reset}
use Rattle.taskfile.specs.declared.Due.{Due}
use Rattle.taskfile.specs.declared.Due.TheVariants.{Performs, PerformsListed}
use Rattle.taskfile.specs.declared.Turn.{Turn}
use Rattle.taskfile.specs.TaskFile.{packet_bytes, list_bytes, count_of}
use Rattle.taskfile.specs.Run.{limit_of, takes_list, is_answer_run, phase_of}
use Rattle.taskfile.specs.RunLaws.{is_packet, is_list, is_answer, phase_of-tested}
use Rattle.taskfile.specs.Host.{refused_turn, held, gone, packet_end, packet_byte, list_byte, answer_byte, written, command_turn, data_turn, read_turn, write_turn, turn_by, turn_of}
use Rattle.taskfile.specs.HostLaws.{packed, listed, turn_of-ways, is_refused, is_performed, is_given}
use Rattle.registerclaims.specs.RegisterLimit.{Limit}
use Rattle.registerclaims.specs.RegisterTurn.{reads_data, writes_data, writes_command, writes_other, is_out_of_turn, ends_packet, ends_list, is_completing}
use Rattle.registerclaims.specs.Along.{list_listing}

-- ---- what is due

-- a refusal, a byte to give, a packet to perform
pub record IsDue (refused gives performs : Bool) (e : Due) : Type 0 where
  pub refuses : is_refused e ≡ refused
  pub giving : is_given e ≡ gives
  pub performing : is_performed e ≡ performs

due_itself : (e : Due) → IsDue (is_refused e) (is_given e) (is_performed e) e
due_itself e = record { refuses = refl; giving = refl; performing = refl }

module _ (f : TaskFile) (v : ℕ) where
  packet-due : IsDue false false (ends_packet f v) (packet_byte f v).due
  unfolding packet_byte packet_end choose◌then◌else◌ ◌and◌
  packet-due = go (eqb (f.at + 1) packet_bytes) (takes_list (set f.packet f.at v)) _ _ _
    where
      go : (ends list : Bool) (g h k : TaskFile)
          → IsDue false false (ends and not list) (choose ends then (choose list then held g else record { due = Performs; file = h }) else held k).due
      go true true g h k = due_itself _
      go true false g h k = due_itself _
      go false list g h k = due_itself _

  list-due : IsDue false false (ends_list f v) (list_byte f v).due
  unfolding list_byte choose◌then◌else◌
  list-due = go (eqb (f.at + 1) list_bytes) _ _
    where
      go : (ends : Bool) (g h : TaskFile) → IsDue false false ends (choose ends then record { due = PerformsListed; file = g } else held h).due
      go true g h = due_itself _
      go false g h = due_itself _

  write-due : (s : Phase) (g : TaskFile) → IsDue (is_packet s or is_list s or is_answer s) false false (write_turn s f (held g)).due
  unfolding ◌or◌
  write-due Idle g = due_itself _
  write-due PacketRun g = due_itself _
  write-due ListRun g = due_itself _
  write-due AnswerRun g = due_itself _

  command-due : (s : Phase)
      → IsDue (not (eqb v 0xA0) or is_packet s or is_list s or is_answer s) false false (write_turn s f (command_turn f v)).due
  unfolding ◌or◌ choose◌then◌else◌
  command-due s = go s (eqb v 0xA0) _
    where
      go : (s : Phase) (b : Bool) (g : TaskFile)
          → IsDue (not b or is_packet s or is_list s or is_answer s) false false (write_turn s f (choose b then held g else refused_turn f)).due
      go s true g = write-due s g
      go Idle false g = due_itself _
      go PacketRun false g = due_itself _
      go ListRun false g = due_itself _
      go AnswerRun false g = due_itself _

  data-due : (s : Phase)
      → IsDue (not (is_packet s or is_list s)) false (is_packet s and ends_packet f v or is_list s and ends_list f v) (data_turn s f v).due
  unfolding ◌or◌ ◌and◌
  data-due Idle = due_itself _
  data-due PacketRun = rw (or-none (ends_packet f v)) packet-due
  data-due ListRun = list-due
  data-due AnswerRun = due_itself _

  read-due : (s : Phase) → IsDue (not (is_answer s)) (is_answer s) false (read_turn s f).due
  unfolding answer_byte
  read-due Idle = due_itself _
  read-due PacketRun = due_itself _
  read-due ListRun = due_itself _
  read-due AnswerRun = due_itself _

  pub turn-due : (a : Access) → IsDue (is_out_of_turn f v a) (reads_data a and is_answer_run f) (is_completing f v a) (turn_of f a v).due
  unfolding turn_of ◌or◌ ◌and◌
  turn-due a = let T = phase_of-tested f in rw (T.packet, T.list, T.answer) (go a (phase_of f))
    where
      go : (a : Access) (s : Phase)
          → IsDue
          (reads_data a and not (is_answer s)
          or writes_data a and not (is_packet s or is_list s)
          or writes_command a and not (eqb v 0xA0)
          or writes_other a and (is_packet s or is_list s or is_answer s))
          (reads_data a and is_answer s)
          (writes_data a and (is_packet s and ends_packet f v or is_list s and ends_list f v))
          (turn_by a s f v).due
      go Data s = rw (or-none (not (is_packet s or is_list s))) (data-due s)
      go Features s = write-due s _
      go CountLow s = write-due s _
      go CountHigh s = write-due s _
      go Drive s = write-due s _
      go Nowhere s = write-due s _
      go Command s = command-due s
      go Read s = rw (or-none (not (is_answer s))) (read-due s)
      go Reset s = due_itself _

  -- a refused access leaves the record
  abbrev Stays : Turn → Type 0
  Stays t = is_refused t.due ≡ true → t ≡ refused_turn f

  pub turn-stays : (a : Access) → Stays (turn_of f a v)
  turn-stays = turn_of-ways f v {P = Stays} (record {
    refuses = λ h. refl;
    holds = λ a s h. absurd (false≢true h);
    asks = λ s h. absurd (false≢true h);
    takes = λ s x h. absurd (false≢true h);
    asks_list = λ s x h. absurd (false≢true h);
    performs = λ s h. absurd (false≢true h);
    enters = λ s x h. absurd (false≢true h);
    performs_listed = λ s h. absurd (false≢true h);
    gives_last = λ s h. absurd (false≢true h);
    gives_more = λ s x h. absurd (false≢true h);
    powers_on = λ h. absurd (false≢true h);
  })

-- ---- packet and list keep their lengths

abbrev pub SameLengths : TaskFile → TaskFile → Type 0
SameLengths f g = (length g.packet ≡ length f.packet) × (length g.list ≡ length f.list)

gone_lengths : (f : TaskFile) → SameLengths f (gone f)
unfolding gone
gone_lengths f = either (SameLengths f) (eqb ((f.at + 1) % f.limit) 0) (λ h. (refl, refl)) (λ h. (refl, refl))

module _ (f : TaskFile) (v : ℕ) where
  abbrev Lasts : Turn → Type 0
  Lasts t = SameLengths f t.file

  packet-lengths : SameLengths f (packed f v)
  packet-lengths = (length-set f.packet f.at v, refl)

  list-lengths : SameLengths f (listed f v)
  list-lengths = (refl, length-set f.list f.at v)

  written-lengths : (a : Access) → SameLengths f (written f a v)
  written-lengths Data = (refl, refl)
  written-lengths Features = (refl, refl)
  written-lengths CountLow = (refl, refl)
  written-lengths CountHigh = (refl, refl)
  written-lengths Drive = (refl, refl)
  written-lengths Command = (refl, refl)
  written-lengths Nowhere = (refl, refl)
  written-lengths Read = (refl, refl)
  written-lengths Reset = (refl, refl)

  pub turn-lengths : (a : Access) → Lasts (turn_of f a v)
  turn-lengths = turn_of-ways f v {P = Lasts} (record {
    refuses = (refl, refl);
    holds = λ a s. written-lengths a;
    asks = λ s. (refl, refl);
    takes = λ s x. packet-lengths;
    asks_list = λ s x. packet-lengths;
    performs = λ s. packet-lengths;
    enters = λ s x. let g = gone_lengths (listed f v) in (g.0, g.1 ∙ list-lengths.1);
    performs_listed = λ s. list-lengths;
    gives_last = λ s. (refl, refl);
    gives_more = λ s x. gone_lengths f;
    powers_on = (refl, refl);
  })

-- ---- the limit of an answer

-- what is due is one thing alone
never : ◌≡◌ {A = ℕ} 0 1 → ⊥
never h = omega arith

module _ (f : TaskFile) (v : ℕ) where
  -- "the host's byte count limit as held at the packet's end"
  abbrev Limited : Turn → Type 0
  Limited t = t.due ≡ Performs → t.file.limit ≡ limit_of (count_of f)

  pub performs-limit : (a : Access) → Limited (turn_of f a v)
  performs-limit = turn_of-ways f v {P = Limited} (record {
    refuses = λ e. absurd (never cc);
    holds = λ a s e. absurd (never cc);
    asks = λ s e. absurd (never cc);
    takes = λ s x e. absurd (never cc);
    asks_list = λ s x e. absurd (never cc);
    performs = λ s e. refl;
    enters = λ s x e. absurd (never cc);
    performs_listed = λ s e. absurd (never cc);
    gives_last = λ s e. absurd (never cc);
    gives_more = λ s x e. absurd (never cc);
    powers_on = λ e. absurd (never cc);
  })

  -- it is the limit of the answer behind a list too
  abbrev Kept : Turn → Type 0
  Kept t = t.due ≡ PerformsListed → (t.file.limit ≡ f.limit) × Limit f.limit

  pub listed-limit : (a : Access) → Kept (turn_of f a v)
  listed-limit = turn_of-ways f v {P = Kept} (record {
    refuses = λ e. absurd (never cc);
    holds = λ a s e. absurd (never cc);
    asks = λ s e. absurd (never cc);
    takes = λ s x e. absurd (never cc);
    asks_list = λ s x e. absurd (never cc);
    performs = λ s e. absurd (never cc);
    enters = λ s x e. absurd (never cc);
    performs_listed = λ s e. (refl, (list_listing f s).limited);
    gives_last = λ s e. absurd (never cc);
    gives_more = λ s x e. absurd (never cc);
    powers_on = λ e. absurd (never cc);
  })
