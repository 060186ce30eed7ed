-- Steps 3 to 5: what a packet comes to that is performed. (INQUIRY and 4Ah also with an attention pending, any other once none is.)
use Rattle.std.specs.Prelude.{ℕ, ◌≡◌, not, List, [], take}
use Rattle.ground.specs.Tests.{◌and◌, choose◌then◌else◌}
use Rattle.ground.specs.Memory.{fill}
use Rattle.deck.specs.declared.Deck.{Deck}
use Rattle.deck.specs.Deck.{is_loaded}
use Rattle.table.specs.Layout.{descriptors}
use Rattle.disc.specs.Rules.{session_lead_out}
use Rattle.tracks.specs.declared.track.Mode.TheVariants.{Data, Audio}
use Rattle.tracks.specs.Track.{track_of, all_in}
use Rattle.disc.specs.Disc.{last_part}
use Rattle.gate.specs.declared.fault.Fault.TheVariants.{UnknownCode}
use Rattle.gate.specs.Gate.{Result, fails, goes}
use Rattle.command.specs.declared.decode.Command.{Command}
use Rattle.command.specs.declared.decode.Command.TheVariants.{TestUnitReady, RequestSense, Inquiry, StartStop, Prevent, ReadCapacity, Read10, Seek, ReadToc, Read12, PlayAudio, PauseResume, ReadSubChannel, ModeSense, ModeSelect, GetEvent, Unknown}
use Rattle.command.specs.Command.{byte, bit0, needs_disc, address_in, count10, count12, length_in}
use Rattle.command.specs.Tray.{start_stop, prevent, no_medium}
use Rattle.command.specs.Inquiry.{inquiry}
use Rattle.command.specs.Done.{Done, done, done_of}
use Rattle.blocks.specs.Blocks.{read_capacity, seek, read}
use Rattle.audio.specs.declared.sub_channel.SubAsk.{SubAsk}
use Rattle.audio.specs.Audio.{play, pause_resume}
use Rattle.audio.specs.SubChannel.{sub_ask_in, read_sub_channel}
use Rattle.mode.specs.ModeSense.{mode_sense}
use Rattle.mode.specs.ModeSelect.{mode_select}
use Rattle.event.specs.EventAnswer.{get_event}
use Rattle.target.specs.ReadToc.{read_toc}

-- "L is the last session's lead-out."
abbrev pub L : List ℕ → ℕ
L t = session_lead_out (last_part t)

-- READ of n blocks from a on, on the disc of the table
abbrev pub reads : ℕ → ℕ → Deck → List ℕ → Result Deck
reads a n m t = read (all_in Data (descriptors t) a n) a n (L t) m

-- K2: PLAY of n blocks from a on, on the disc of the table
abbrev pub plays : ℕ → ℕ → Deck → List ℕ → Result Deck
plays a n m t = play (all_in Audio (descriptors t) a n) a n (L t) m

-- K2: READ SUB-CHANNEL, of the position's track on the disc of the table lent now
abbrev pub tells : SubAsk → ℕ → Deck → List ℕ → Result Deck
tells ask limit m t = read_sub_channel ask (track_of (descriptors t) m.play.position) limit m

-- step 5: each command's own work; K4: l is the lent parameter list, which MODE SELECT alone looks at (REQUEST SENSE never comes here:
-- `steps_by` answers it by `request_sense`)
abbrev pub work : Command → List ℕ → Deck → List ℕ → List ℕ → Result Deck
work TestUnitReady p m t l = done m
work RequestSense p m t l = done m
work Inquiry p m t l = inquiry p m
work StartStop p m t l = start_stop (byte p 4) m
work Prevent p m t l = prevent (byte p 4) m
work ReadCapacity p m t l = read_capacity (L t) m
work Read10 p m t l = reads (address_in p) (count10 p) m t
work Seek p m t l = seek (address_in p) (L t) m
work ReadToc p m t l = read_toc p m t
work Read12 p m t l = reads (address_in p) (count12 p) m t
work PlayAudio p m t l = plays (address_in p) (count10 p) m t
work PauseResume p m t l = pause_resume (bit0 (byte p 8)) m
work ReadSubChannel p m t l = tells (sub_ask_in p) (length_in p) m t
work ModeSense p m t l = mode_sense (byte p 2) (length_in p) m
work ModeSelect p m t l = mode_select (length_in p) l m
work GetEvent p m t l = get_event (byte p 1) (byte p 4) (length_in p) m
work Unknown p m t l = fails UnknownCode

-- steps 3 and 4: "Unknown code: 05/20/00." (an unknown code needs no disc) "If the command needs a disc and the drive isn't loaded: .."
unfoldable pub perform : Command → List ℕ → Deck → List ℕ → List ℕ → Result Deck
perform c p m t l = choose needs_disc c p and not (is_loaded m) then fails (no_medium m) else work c p m t l

-- ---- what the code hands back, and what it writes

-- "the bytes are the first n of the full answer, n the smaller of the two lengths"
abbrev pub written : Result Deck → List ℕ
written (fails f) = []
written (goes next loading full limit start count) = take limit full

-- the code's answer o and the memory m' are what the result says, of the memory m
pub record Performed (r : Result Deck) (m : List ℕ) (o : Done) (m' : List ℕ) : Type 0 where
  pub outcome : o ≡ done_of r
  pub memory : m' ≡ fill m (written r)
