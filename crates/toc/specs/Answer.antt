-- 43h, READ TOC: the full answer of each format, and which questions are bad. The disc is what was read off the table, d its descriptors.
use Rattle.std.specs.Prelude.{ℕ, ◌+◌, ◌-◌, ◌*◌, Bool, true, false, not, List, ◌∷◌, ◌++◌, length, take, ltb, eqb}
use Rattle.ground.specs.Tests.{◌and◌, choose◌then◌else◌}
use Rattle.ground.specs.Number.{bytes16}
use Rattle.disc.specs.declared.disc.Disc.{Disc}
use Rattle.table.specs.Layout.{row, rows}
use Rattle.sessions.specs.Session.{session}
use Rattle.toc.specs.Shown.{described, shown_tracks}

-- "the lead-out as AAh"
abbrev pub AA : ℕ
AA = 0xAA

-- "header (length, counting the bytes after its own two, as in every format; ..)" with two numbers, and then the body
unfoldable pub headed : ℕ → ℕ → List ℕ → List ℕ
headed a b body = bytes16 (2 + length body) ++ a ∷ b ∷ body

-- "Format 0: header (..; first and last track of the disc), then 8 bytes for each track numbered N or more, then the lead-out as AAh"
-- "The lead-out takes ADR/control from the last session's A2."
unfoldable pub format0 : Disc → Bool → ℕ → List ℕ → List ℕ
format0 disc msf n d =
    headed disc.first disc.last
    (shown_tracks msf n d (rows d) ++ described msf disc.lead_flags AA disc.lead_out)

-- "Format 1: 000Ah, 1, S, then one such descriptor for the last session's first track", which stands before any B0h and C0h
unfoldable pub format1 : Disc → Bool → List ℕ
format1 disc msf =
    headed 1 disc.sessions (described msf disc.last_first_flags disc.last_first disc.last_first_start)

-- the descriptors that are there whole: of a fit table all (`whole_fit`)
abbrev pub whole : List ℕ → List ℕ
whole s = take (row * rows s) s

-- "Format 2: header with 1 and S, then the table's descriptors of sessions N and up"; K1: "format 2 returns" B0h and C0h
unfoldable pub format2 : Disc → ℕ → List ℕ → List ℕ
format2 disc n d = headed 1 disc.sessions (whole (session d (n - 1)))

-- the full answer of a format
unfoldable pub toc_bytes : Disc → ℕ → Bool → ℕ → List ℕ → List ℕ
toc_bytes disc f msf n d =
    choose eqb f 0 then format0 disc msf n d else (choose eqb f 1 then format1 disc msf else format2 disc n d)

-- "N over the last track and not AAh: 05/24/00", "N over S is 05/24/00", "Other formats: 05/24/00."
unfoldable pub toc_bad : Disc → ℕ → ℕ → Bool
toc_bad disc f n =
    choose eqb f 0 then ltb disc.last n and not (eqb n AA)
    else (choose eqb f 1 then false else (choose eqb f 2 then ltb disc.sessions n else true))
