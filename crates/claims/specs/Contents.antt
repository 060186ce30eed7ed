-- K10, "How much of a disc the track list tells": the track list of a table, the contents that it tells, and the tables that it does
-- not tell apart.
use Rattle.std.specs.Prelude.{ℕ, zero, suc, ◌≡◌, Bool, true, false, List, [], ◌∷◌, ◌++◌, leb, eqb}
use Rattle.ground.specs.Tests.{◌and◌, choose◌then◌else◌}
use Rattle.table.specs.Layout.{last_session, descriptors, rows, flags_at, point_at, is_track}
use Rattle.table.specs.Row.{address_at}
use Rattle.disc.specs.Rules.{is_fit}
use Rattle.disc.specs.Disc.{disc_of}
use Rattle.toc.specs.Shown.{described}
use Rattle.toc.specs.Answer.{AA, headed, format0}
use Rattle.command.specs.Command.{code_of}
use Rattle.target.specs.ReadToc.{format_in}
use Rattle.claims.specs.Call.{Call, packet}

-- READ TOC's full format 0 answer for that table, by MSF and N (where that N is no fault)
abbrev pub list_with : Bool → ℕ → List ℕ → List ℕ
list_with msf n t = format0 (disc_of t) msf n (descriptors t)

-- the track list: "full format 0 answers (N 0, block addresses)"
abbrev pub track_list : List ℕ → List ℕ
track_list t = list_with false 0 t

-- READ TOC for it: N 0, block addresses, and the most bytes that can be asked for
abbrev pub list_packet : List ℕ
list_packet = 0x43 ∷ 0x00 ∷ 0x00 ∷ 0x00 ∷ 0x00 ∷ 0x00 ∷ 0x00 ∷ 0xFF ∷ 0xFF ∷ 0x00 ∷ 0x00 ∷ 0x00 ∷ []

-- ---- what it tells

-- of a track: "ADR/control, number, .. address"
pub record Entry : Type 0 where
  pub flags : ℕ
  pub number : ℕ
  pub start : ℕ

-- of a disc: "first and last track of the disc", each track, and the lead-out with its ADR/control
pub record Contents : Type 0 where
  pub first : ℕ
  pub last : ℕ
  pub tracks : List Entry
  pub flags_of_lead : ℕ
  pub session_lead_out : ℕ

-- descriptor j of the table as a track
abbrev pub entry_at : List ℕ → ℕ → Entry
entry_at d j = record { flags = flags_at d j; number = point_at d j; start = address_at d j }

-- the tracks among the table's first n descriptors
unfoldable pub entries : List ℕ → ℕ → List Entry
entries d zero = []
entries d (suc j) = entries d j ++ (choose is_track (point_at d j) then entry_at d j ∷ [] else [])

-- the contents of the disc that the table describes
abbrev pub contents_of : List ℕ → Contents
contents_of t = record {
  first = (disc_of t).first;
  last = (disc_of t).last;
  tracks = entries (descriptors t) (rows (descriptors t));
  flags_of_lead = (disc_of t).lead_flags;
  session_lead_out = (disc_of t).lead_out;
}

-- ---- the list that contents make

-- the tracks "numbered N or more"
unfoldable pub from : ℕ → List Entry → List Entry
from n [] = []
from n (e ∷ es) = choose leb n e.number then e ∷ from n es else from n es

-- "0, ADR/control, number, 0, address"
abbrev pub entry_bytes : Bool → Entry → List ℕ
entry_bytes msf e = described msf e.flags e.number e.start

-- "8 bytes for each track"
unfoldable pub written : Bool → List Entry → List ℕ
written msf [] = []
written msf (e ∷ es) = entry_bytes msf e ++ written msf es

-- "then the lead-out as AAh"
abbrev pub lead_entry : Contents → Entry
lead_entry c = record { flags = c.flags_of_lead; number = AA; start = c.session_lead_out }

-- by MSF and N: it is a table's list (`list-made`), and nothing else of the table goes into it
abbrev pub list_of : Bool → ℕ → Contents → List ℕ
list_of msf n c = headed c.first c.last (written msf (from n c.tracks) ++ entry_bytes msf (lead_entry c))

-- ---- the tables that it does not tell apart

-- a fit table "of one session"
pub record Single (t : List ℕ) : Type 0 where
  pub fit : is_fit t ≡ true
  pub one : last_session t ≡ 1

-- "two fit tables of one session whose full format 0 answers (N 0, block addresses) are equal"
pub record Twins (t u : List ℕ) : Type 0 where
  pub table : Single t
  pub other : Single u
  pub list : track_list t ≡ track_list u

-- "READ TOC format 2": by byte 2's low nibble, also where N makes it a fault
abbrev pub is_format2 : List ℕ → Bool
is_format2 p = eqb (code_of p) 0x43 and eqb (format_in p) 2

-- the same call, or the same packet, not READ TOC by format 2, with the same list and memory and twins for tables
pub data Twinned : Call → Call → Type 0 where
  itself : (c : Call) → Twinned c c
  twins : (p l m : List ℕ) {t u : List ℕ} → Twins t u → is_format2 p ≡ false → Twinned (packet p t l m) (packet p u l m)
