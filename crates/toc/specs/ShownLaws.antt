-- The laws of what is shown of the descriptors: how long it is, and how it is made, one descriptor after the other.
use Rattle.std.specs.Prelude.{◌≡◌, refl, Bool, true, false, List, [], ◌++◌, ℕ, zero, suc, ◌+◌, ◌*◌, ◌≤◌, length, take, drop}
use Rattle.std.proofs.Common.{sym, ap, ◌∙◌, arith, add-one, length-append, take-add}
use Rattle.ground.specs.Tests.{choose◌then◌else◌, when, unless, either}
use Rattle.table.specs.Layout.{row, flags_at, point_at}
use Rattle.table.specs.Row.{address_at}
use Rattle.toc.specs.declared.shown.Show.{Show}
use Rattle.toc.specs.declared.shown.Show.TheVariants.{Tracks, Whole}
use Rattle.address.specs.Laws.{shown_address-length}
use Rattle.toc.specs.Shown.{described, described_row, is_shown, shown_track, shown_tracks}

-- how many of the first descriptors are shown
unfoldable pub shown_count : ℕ → List ℕ → ℕ → ℕ
shown_count n d zero = 0
shown_count n d (suc j) = choose is_shown n d j then shown_count n d j + 1 else shown_count n d j

-- ---- shown_tracks

pub shown_count-none : (n : ℕ) (d : List ℕ) → shown_count n d 0 ≡ 0
unfolding shown_count
shown_count-none n d = refl

-- eight bytes for a descriptor that is shown, none for another
pub described-length : (msf : Bool) (flags number a : ℕ) → length (described msf flags number a) ≡ 8
described-length msf flags number a = ap (λ (k : ℕ). suc (suc (suc (suc k)))) (shown_address-length msf a)

pub shown_track_is : (msf : Bool) (n : ℕ) (d : List ℕ) (j : ℕ) → is_shown n d j ≡ true
    → shown_track msf n d j ≡ described_row msf d j
unfolding shown_track
shown_track_is msf n d j e = when _ _ _ e

pub shown_track_not : (msf : Bool) (n : ℕ) (d : List ℕ) (j : ℕ) → is_shown n d j ≡ false → shown_track msf n d j ≡ []
unfolding shown_track
shown_track_not msf n d j e = unless _ _ _ e

pub shown_count_is : (n : ℕ) (d : List ℕ) (j : ℕ) → is_shown n d j ≡ true → shown_count n d (j + 1) ≡ shown_count n d j + 1
unfolding shown_count
shown_count_is n d j e = rw (add-one j) (when _ _ _ e)

pub shown_count_not : (n : ℕ) (d : List ℕ) (j : ℕ) → is_shown n d j ≡ false → shown_count n d (j + 1) ≡ shown_count n d j
unfolding shown_count
shown_count_not n d j e = rw (add-one j) (unless _ _ _ e)

pub shown_tracks-length : (msf : Bool) (n : ℕ) (d : List ℕ) (j : ℕ) → length (shown_tracks msf n d j) ≡ 8 * shown_count n d j
unfolding shown_tracks shown_count
shown_tracks-length msf n d zero = refl
shown_tracks-length msf n d (suc j) =
    length-append (shown_tracks msf n d j) (shown_track msf n d j) ∙ step (is_shown n d j) refl (shown_tracks-length msf n d j)
  where
    step : (b : Bool) → is_shown n d j ≡ b → length (shown_tracks msf n d j) ≡ 8 * shown_count n d j
        → length (shown_tracks msf n d j) + length (shown_track msf n d j) ≡ 8 * (choose is_shown n d j then shown_count n d j + 1 else shown_count n d j)
    step true e h =
        let l : length (shown_track msf n d j) ≡ 8 = ap length (shown_track_is msf n d j e) ∙ described-length msf (flags_at d j) (point_at d j) (address_at d j) in
        let k : (choose is_shown n d j then shown_count n d j + 1 else shown_count n d j) ≡ shown_count n d j + 1 = when _ _ _ e in
        omega arith
    step false e h =
        let l : length (shown_track msf n d j) ≡ 0 = ap length (shown_track_not msf n d j e) in
        let k : (choose is_shown n d j then shown_count n d j + 1 else shown_count n d j) ≡ shown_count n d j = unless _ _ _ e in
        omega arith

-- never more than there are
pub shown_count-within : (n : ℕ) (d : List ℕ) (j : ℕ) → shown_count n d j ≤ j
unfolding shown_count
shown_count-within n d zero = omega arith
shown_count-within n d (suc j) =
    let h = shown_count-within n d j in
    either (λ (k : ℕ). k ≤ suc j) (is_shown n d j) (λ e. omega arith) (λ e. omega arith)

-- ---- what is shown of each descriptor, one after the other

unfoldable pub shown : Show → List ℕ → ℕ → List ℕ
shown (Tracks msf n) d j = shown_track msf n d j
shown Whole d j = take row (drop (row * j) d)

unfoldable pub listed : Show → List ℕ → ℕ → List ℕ
listed s d zero = []
listed s d (suc j) = listed s d j ++ shown s d j

pub listed-none : (s : Show) (d : List ℕ) → listed s d 0 ≡ []
unfolding listed
listed-none s d = refl

pub listed_more : (s : Show) (d : List ℕ) (j : ℕ) → listed s d (j + 1) ≡ listed s d j ++ shown s d j
unfolding listed
listed_more s d j = rw (add-one j)

-- of tracks it is what format 0 shows
pub listed-tracks : (msf : Bool) (n : ℕ) (d : List ℕ) (j : ℕ) → listed (Tracks msf n) d j ≡ shown_tracks msf n d j
unfolding listed shown shown_tracks
listed-tracks msf n d zero = refl
listed-tracks msf n d (suc j) = ap (λ (l : List ℕ). l ++ shown_track msf n d j) (listed-tracks msf n d j)

-- of whole descriptors it is the bytes themselves
pub listed-whole : (d : List ℕ) (j : ℕ) → listed Whole d j ≡ take (row * j) d
unfolding listed shown
listed-whole d zero = refl
listed-whole d (suc j) =
    let e : row * suc j ≡ row * j + row = omega arith in
    ap (λ (l : List ℕ). l ++ take row (drop (row * j) d)) (listed-whole d j) ∙ sym (take-add (row * j) row d) ∙ ap (λ (k : ℕ). take k d) (sym e)
