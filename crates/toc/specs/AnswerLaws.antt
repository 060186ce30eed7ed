-- The laws of READ TOC's answers: each is its parts, laid one after the other, and none is long.
use Rattle.std.specs.Prelude.{◌≡◌, refl, Bool, List, [], ◌∷◌, ◌++◌, ℕ, ◌+◌, ◌-◌, ◌*◌, ◌/◌, ◌%◌, ◌≤◌, ◌<◌, min, eqb, length, take, drop}
use Rattle.std.proofs.Common.{sym, ap, ◌∙◌, append_assoc, arith, lt_of_not-le, length-append, length-take, length-drop, eq-eqb, ne_eqb}
use Rattle.std.proofs.Math.Decide.{dec_le}
use Rattle.std.proofs.Math.Seq.{take-length}
use Rattle.ground.specs.Tests.{when, unless, either}
use Rattle.disc.specs.declared.disc.Disc.{Disc}
use Rattle.table.specs.Layout.{bound, header, row, rows, descriptors, last_session}
use Rattle.sessions.specs.Session.{starts, session}
use Rattle.sessions.specs.SessionLaws.{starts-rows}
use Rattle.disc.specs.RulesLaws.{Fit, fit-rows}
use Rattle.toc.specs.declared.shown.Show.TheVariants.{Tracks, Whole}
use Rattle.toc.specs.Shown.{described, shown_tracks}
use Rattle.toc.specs.ShownLaws.{shown_count, shown_count-within, shown_tracks-length, described-length, listed, listed-tracks, listed-whole}
use Rattle.toc.specs.Answer.{AA, headed, format0, format1, whole, format2, toc_bytes}

-- ---- an answer is a header and what follows it

-- the four bytes of a header
abbrev pub head_of : ℕ → ℕ → ℕ → List ℕ
head_of a b n = n / 256 % 256 ∷ n % 256 ∷ a ∷ b ∷ []

pub headed-one : (a b : ℕ) (x : List ℕ) → headed a b x ≡ head_of a b (2 + length x) ++ x
unfolding headed
headed-one a b x = refl

pub headed-two : (a b : ℕ) (x y : List ℕ) → headed a b (x ++ y) ≡ (head_of a b (2 + (length x + length y)) ++ x) ++ y
headed-two a b x y =
    headed-one a b (x ++ y)
    ∙ ap (λ (k : ℕ). head_of a b (2 + k) ++ (x ++ y)) (length-append x y)
    ∙ sym (append_assoc (head_of a b (2 + (length x + length y))) x y)

-- ---- each format is its parts, laid one after the other

pub format0_laid :
    (disc : Disc) (msf : Bool) (n : ℕ) (d : List ℕ) (k : ℕ) → k ≡ shown_count n d (rows d)
    → format0 disc msf n d
    ≡ (head_of disc.first disc.last (2 + (8 * k + 8)) ++ listed (Tracks msf n) d (rows d)) ++ described msf disc.lead_flags AA disc.lead_out
unfolding format0
format0_laid disc msf n d k h =
    let e = listed-tracks msf n d (rows d) in
    let l : length (shown_tracks msf n d (rows d)) ≡ 8 * k = shown_tracks-length msf n d (rows d) ∙ ap (λ (z : ℕ). 8 * z) (sym h) in
    let w = described-length msf disc.lead_flags AA disc.lead_out in
    headed-two _ _ (shown_tracks msf n d (rows d)) (described msf disc.lead_flags AA disc.lead_out) ∙ rw (e, l, w)

pub format1_laid :
    (disc : Disc) (msf : Bool)
    → format1 disc msf ≡ head_of 1 disc.sessions (2 + 8) ++ described msf disc.last_first_flags disc.last_first disc.last_first_start
unfolding format1
format1_laid disc msf =
    let w = described-length msf disc.last_first_flags disc.last_first disc.last_first_start in headed-one _ _ _ ∙ rw w

whole_length : (s : List ℕ) → length (whole s) ≡ row * rows s
whole_length s = let e = length-take (row * rows s) s in omega arith

-- of a fit table every descriptor is there whole, from each session on
pub whole_fit : {t : List ℕ} → Fit t → (k : ℕ) → k < last_session t → whole (session (descriptors t) k) ≡ session (descriptors t) k
whole_fit {t} f k h =
    let s = session (descriptors t) k in
    let e : row * rows s ≡ length s =
    let w = fit-rows f in
    let r = starts-rows (descriptors t) k in
    let l = length-drop (starts (descriptors t) k) (descriptors t) in
    omega arith in
    ap (λ (n : ℕ). take n s) e ∙ take-length s

pub format2_laid :
    (disc : Disc) (n : ℕ) (d : List ℕ)
    → format2 disc n d
    ≡ head_of 1 disc.sessions (2 + row * rows (session d (n - 1))) ++ listed Whole (session d (n - 1)) (rows (session d (n - 1)))
unfolding format2
format2_laid disc n d =
    let s = session d (n - 1) in
    rw (listed-whole s (rows s)) (headed-one _ _ (whole s) ∙ rw (whole_length s))

-- ---- the part of the descriptors from a session on

none : (l : List ℕ) → length l ≡ 0 → l ≡ []
none [] h = refl
none (x ∷ l) h = absurd (omega arith)

-- a part that begins past the end is the one that begins at the end
pub drop-held : (k : ℕ) (l : List ℕ) → drop (min k (length l)) l ≡ drop k l
drop-held k l = elim (dec_le k (length l)) [
  | yes h ↦ within h
  | no h ↦ past h
]
  where
    within : k ≤ length l → drop (min k (length l)) l ≡ drop k l
    within h = let e : min k (length l) ≡ k = omega arith in rw e

    past : (k ≤ length l → ⊥) → drop (min k (length l)) l ≡ drop k l
    past h =
        let o = lt_of_not-le h in
        let a = length-drop (min k (length l)) l in
        let b = length-drop k l in
        none _ (omega arith) ∙ sym (none (drop k l) (omega arith))

-- ---- the bytes of each format

pub toc_bytes_0 : (disc : Disc) (f : ℕ) (msf : Bool) (n : ℕ) (d : List ℕ) → f ≡ 0 → toc_bytes disc f msf n d ≡ format0 disc msf n d
unfolding toc_bytes
toc_bytes_0 disc f msf n d e = when _ _ _ (eq-eqb _ _ e)

pub toc_bytes_1 : (disc : Disc) (f : ℕ) (msf : Bool) (n : ℕ) (d : List ℕ) → f ≡ 1 → toc_bytes disc f msf n d ≡ format1 disc msf
unfolding toc_bytes
toc_bytes_1 disc f msf n d e = unless _ _ _ (ne_eqb f 0 (λ z. omega arith)) ∙ when _ _ _ (eq-eqb f 1 e)

pub toc_bytes_2 :
    (disc : Disc) (f : ℕ) (msf : Bool) (n : ℕ) (d : List ℕ) → (f ≡ 0 → ⊥) → (f ≡ 1 → ⊥) → toc_bytes disc f msf n d ≡ format2 disc n d
unfolding toc_bytes
toc_bytes_2 disc f msf n d a b = unless _ _ _ (ne_eqb f 0 a) ∙ unless _ _ _ (ne_eqb f 1 b)

-- ---- no answer of a table within the bound passes it

format0-within : (disc : Disc) (msf : Bool) (n : ℕ) (d : List ℕ) → header + length d ≤ bound → length (format0 disc msf n d) ≤ bound
format0-within disc msf n d m =
    let k = shown_count n d (rows d) in
    let w = shown_count-within n d (rows d) in
    let e = ap length (format0_laid disc msf n d k refl) in
    let a = length-append (head_of disc.first disc.last (2 + (8 * k + 8)) ++ listed (Tracks msf n) d (rows d)) (described msf disc.lead_flags AA disc.lead_out) in
    let b = length-append (head_of disc.first disc.last (2 + (8 * k + 8))) (listed (Tracks msf n) d (rows d)) in
    let c = ap length (listed-tracks msf n d (rows d)) ∙ shown_tracks-length msf n d (rows d) in
    let g = described-length msf disc.lead_flags AA disc.lead_out in
    omega arith

format1-within : (disc : Disc) (msf : Bool) → length (format1 disc msf) ≤ bound
format1-within disc msf =
    let e = ap length (format1_laid disc msf) in
    let a = length-append (head_of 1 disc.sessions (2 + 8)) (described msf disc.last_first_flags disc.last_first disc.last_first_start) in
    let g = described-length msf disc.last_first_flags disc.last_first disc.last_first_start in
    omega arith

format2-within : (disc : Disc) (n : ℕ) (d : List ℕ) → header + length d ≤ bound → length (format2 disc n d) ≤ bound
unfolding format2
format2-within disc n d m =
    let s = session d (n - 1) in
    let e = ap length (headed-one 1 disc.sessions (whole s)) in
    let a = length-append (head_of 1 disc.sessions (2 + length (whole s))) (whole s) in
    let g = length-take (row * rows s) s in
    let q = length-drop (starts d (n - 1)) d in
    omega arith

pub toc_bytes-within :
    (disc : Disc) (f : ℕ) (msf : Bool) (n : ℕ) (d : List ℕ) → header + length d ≤ bound → length (toc_bytes disc f msf n d) ≤ bound
unfolding toc_bytes
toc_bytes-within disc f msf n d m =
    either (λ (l : List ℕ). length l ≤ bound) (eqb f 0) (λ h. format0-within disc msf n d m)
    (λ h. either (λ (l : List ℕ). length l ≤ bound) (eqb f 1) (λ k. format1-within disc msf) (λ k. format2-within disc n d m))
