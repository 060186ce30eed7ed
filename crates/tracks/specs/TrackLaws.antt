-- Laws of tracks: one step of each definition, for the code, and what the track of a block is.
use Rattle.std.specs.Prelude.{◌≡◌, refl, true, false, List, ℕ, zero, suc, ◌+◌, ◌≤◌, ◌<◌, eqb}
use Rattle.std.proofs.Common.{sym, ap, ◌∙◌, add-one, arith, lt_of_not-le, le-leb, lt-ltb, le-ltb, eq-eqb, ne_eqb, leb-true, leb-false}
use Rattle.std.proofs.Math.Decide.{dec_le, ℕ_discrete}
use Rattle.ground.specs.Tests.{and_on, and_off, and_head, and_tail, when, unless, either}
use Rattle.table.specs.Layout.{rows, point_at, A2, is_track}
use Rattle.table.specs.Row.{address_at}
use Rattle.tracks.specs.Track.{next_out, out_at, no_track, track_at, covers, wanted, next_found, found, track_of}
use Rattle.tracks.specs.declared.track.Track.{Track}
use Rattle.tracks.specs.declared.track.Ask.{Ask}
use Rattle.tracks.specs.declared.track.Ask.TheVariants.{Block, Number}

-- ---- the lead-out

-- past an A2 descriptor its own address is the lead-out
pub next_out-here : (c : Track) → c.number ≡ A2 → next_out c ≡ c.start
unfolding next_out
next_out-here c h = when _ _ _ (eq-eqb _ _ h)

-- any other descriptor leaves it
pub next_out_on : (c : Track) → (c.number ≡ A2 → ⊥) → next_out c ≡ c.out
unfolding next_out
next_out_on c h = unless _ _ _ (ne_eqb _ _ h)

pub out_at-none : (d : List ℕ) → out_at d 0 ≡ 0
unfolding out_at
out_at-none d = refl

pub out_at-next : (d : List ℕ) (j : ℕ) → out_at d (j + 1) ≡ next_out (track_at d j)
unfolding out_at
out_at-next d j = ap (out_at d) (add-one j)

-- ---- the track found

pub wanted_not : (a : Ask) (c u : Track) → is_track c.number ≡ false → false ≡ wanted a c u
unfolding wanted
wanted_not (Block b) c u h = and_off _ _ h
wanted_not (Number n) c u h = and_off _ _ h

pub wanted_block : (b : ℕ) (c u : Track) → is_track c.number ≡ true → covers c.start b u.start ≡ wanted (Block b) c u
unfolding wanted
wanted_block b c u h = and_on _ _ h refl

pub wanted_number : (n : ℕ) (c u : Track) → is_track c.number ≡ true → eqb c.number n ≡ wanted (Number n) c u
unfolding wanted
wanted_number n c u h = and_on _ _ h refl

pub next_found-here : (a : Ask) (c u : Track) → wanted a c u ≡ true → next_found a c u ≡ c
unfolding next_found
next_found-here a c u h = when _ _ _ h

pub next_found_on : (a : Ask) (c u : Track) → wanted a c u ≡ false → next_found a c u ≡ u
unfolding next_found
next_found_on a c u h = unless _ _ _ h

pub found_none : (a : Ask) (d : List ℕ) → found a d 0 ≡ no_track
unfolding found
found_none a d = refl

pub found-next : (a : Ask) (d : List ℕ) (j : ℕ) {c u : Track} → c ≡ track_at d j → u ≡ found a d j → next_found a c u ≡ found a d (j + 1)
unfolding found
found-next a d j p q = rw (add-one, p, q)

-- ---- the track of a block

-- the block lies below the lead-out of the track found: it belongs to it
pub track_of_below : (d : List ℕ) (b : ℕ) {u : Track} → u ≡ found (Block b) d (rows d) → b < u.out → u ≡ track_of d b
unfolding track_of
track_of_below d b {u} e h = e ∙ sym (when _ _ _ (lt-ltb _ _ (rw e at h)))

-- it does not: it belongs to no track
pub track_of-past : (d : List ℕ) (b : ℕ) {u : Track} → u ≡ found (Block b) d (rows d) → u.out ≤ b → track_of d b ≡ no_track
unfolding track_of
track_of-past d b {u} e h = unless _ _ _ (le-ltb _ _ (rw e at h))

-- ---- "the track with the greatest start not above it"

-- descriptor i is a track that starts at block b or before it
pub record Reaches (d : List ℕ) (b i : ℕ) : Type 0 where
  pub track : is_track (point_at d i) ≡ true
  pub start : address_at d i ≤ b

-- of the first n descriptors i is the track with the greatest start not above block b (the last one, where starts are equal)
pub record Greatest (d : List ℕ) (b n i : ℕ) : Type 0 where
  pub listed : i < n
  pub reaches : Reaches d b i
  pub greatest : (j : ℕ) → j < n → Reaches d b j → address_at d j ≤ address_at d i
  pub last : (j : ℕ) → j < n → Reaches d b j → address_at d j ≡ address_at d i → j ≤ i

-- u is that track, or no track where none of the first n starts at block b or before it
pub data Found (d : List ℕ) (b n : ℕ) (u : Track) : Type 0 where
  here : (i : ℕ) → Greatest d b n i → u ≡ track_at d i → Found d b n u
  none : ((j : ℕ) → j < n → Reaches d b j → ⊥) → u ≡ no_track → Found d b n u

-- there is one such track at most
pub only_greatest : {d : List ℕ} {b n i k : ℕ} → Greatest d b n i → Greatest d b n k → i ≡ k
only_greatest {d} {b} {n} {i} {k} g h =
    let p = g.greatest k h.listed h.reaches in
    let q = h.greatest i g.listed g.reaches in
    let e : address_at d i ≡ address_at d k = omega arith in
    let l = h.last i g.listed g.reaches e in
    let m = g.last k h.listed h.reaches (sym e) in
    omega arith

wanted_reaches : (d : List ℕ) (b j : ℕ) (u : Track) → wanted (Block b) (track_at d j) u ≡ true → Reaches d b j
unfolding wanted covers
wanted_reaches d b j u h = record { track = and_head _ _ h; start = leb-true _ _ (and_head _ _ (and_tail _ _ h)) }

wanted_greatest : (d : List ℕ) (b j : ℕ) (u : Track) → wanted (Block b) (track_at d j) u ≡ true → u.start ≤ address_at d j
unfolding wanted covers
wanted_greatest d b j u h = leb-true _ _ (and_tail _ _ (and_tail _ _ h))

unwanted_less : (d : List ℕ) (b j : ℕ) (u : Track) → wanted (Block b) (track_at d j) u ≡ false → Reaches d b j → address_at d j < u.start
unfolding wanted covers
unwanted_less d b j u h r = leb-false _ _ (and_on _ _ r.track (and_on _ _ (le-leb _ _ r.start) refl) ∙ h)

-- so a track of the first n that starts at block b or before it starts no later than the one found
pub found_reaches : {d : List ℕ} {b n : ℕ} {u : Track} → Found d b n u → (j : ℕ) → j < n → Reaches d b j → address_at d j ≤ u.start
found_reaches (here i g q) j k r = rw q (g.greatest j k r)
found_reaches (none f q) j k r = absurd (f j k r)

found-takes : (d : List ℕ) (b n : ℕ) (u : Track) → wanted (Block b) (track_at d n) u ≡ true → Found d b n u → Found d b (suc n) (track_at d n)
found-takes d b n u h f = here n (record {
  listed = omega arith;
  reaches = wanted_reaches d b n u h;
  greatest = λ j k r. elim (ℕ_discrete j n) [
    | yes e ↦ rw e (omega arith)
    | no e ↦ let p = found_reaches f j (omega arith) r in let q = wanted_greatest d b n u h in omega arith
  ];
  last = λ j k r e. omega arith;
}) refl

found_keeps : (d : List ℕ) (b n : ℕ) (u : Track) → wanted (Block b) (track_at d n) u ≡ false → Found d b n u → Found d b (suc n) u
found_keeps d b n u h (here i g q) =
    let less : Reaches d b n → address_at d n < address_at d i = λ r. rw q at (unwanted_less d b n u h r) in
    here i (record {
      listed = let l = g.listed in omega arith;
      reaches = g.reaches;
      greatest = λ j k r. elim (ℕ_discrete j n) [
        | yes e ↦ rw e (let p = less (rw e at r) in omega arith)
        | no e ↦ g.greatest j (omega arith) r
      ];
      last = λ j k r s. elim (ℕ_discrete j n) [
        | yes e ↦ let p = less (rw e at r) in let t : address_at d n ≡ address_at d i = rw e at s in absurd (omega arith)
        | no e ↦ g.last j (omega arith) r s
      ];
    }) q
found_keeps d b n u h (none f q) = none (λ j k r. elim (ℕ_discrete j n) [
  | yes e ↦ let p : address_at d n < 0 = rw q at (unwanted_less d b n u h (rw e at r)) in omega arith
  | no e ↦ f j (omega arith) r
]) q

-- what the definition finds for a block is "the track with the greatest start not above it", or no track where there is none
pub found_greatest : (d : List ℕ) (b n : ℕ) → Found d b n (found (Block b) d n)
unfolding found next_found
found_greatest d b zero = none (λ j k r. omega arith) refl
found_greatest d b (suc n) =
    let f = found_greatest d b n in
    either (Found d b (suc n)) (wanted (Block b) (track_at d n) (found (Block b) d n)) (λ h. found-takes d b n _ h f) (λ h. found_keeps d b n _ h f)

-- ---- "A block belongs to the track with the greatest start not above it, if it lies below that track's session's lead-out; else to no track"

pub data Belongs (d : List ℕ) (b : ℕ) (u : Track) : Type 0 where
  below : (i : ℕ) → Greatest d b (rows d) i → b < out_at d i → u ≡ track_at d i → Belongs d b u
  past : (i : ℕ) → Greatest d b (rows d) i → out_at d i ≤ b → u ≡ no_track → Belongs d b u
  outside : ((j : ℕ) → j < rows d → Reaches d b j → ⊥) → u ≡ no_track → Belongs d b u

pub track_of_belongs : (d : List ℕ) (b : ℕ) → Belongs d b (track_of d b)
track_of_belongs d b = told (found_greatest d b (rows d))
  where
    told : Found d b (rows d) (found (Block b) d (rows d)) → Belongs d b (track_of d b)
    told (here i g q) = elim (dec_le (out_at d i) b) [
      | yes h ↦ past i g h (track_of-past d b (sym q) h)
      | no h ↦ below i g (lt_of_not-le h) (sym (track_of_below d b (sym q) (lt_of_not-le h)))
    ]
    told (none f q) = outside f (track_of-past d b (sym q) (omega arith))

-- below the lead-out of the track with the greatest start not above it, that is its track
pub track_of_of : (d : List ℕ) (b i : ℕ) → Greatest d b (rows d) i → b < out_at d i → track_of d b ≡ track_at d i
track_of_of d b i g h = told (track_of_belongs d b)
  where
    told : Belongs d b (track_of d b) → track_of d b ≡ track_at d i
    told (below k f l q) = q ∙ ap (track_at d) (only_greatest f g)
    told (past k f l q) = let e = only_greatest f g in absurd (let m : out_at d i ≤ b = rw e at l in omega arith)
    told (outside f q) = absurd (f i g.listed g.reaches)

-- no such track, or none below whose lead-out it lies: no track, number 0
pub track_of_no : (d : List ℕ) (b : ℕ) → ((i : ℕ) → Greatest d b (rows d) i → out_at d i ≤ b) → track_of d b ≡ no_track
track_of_no d b h = told (track_of_belongs d b)
  where
    told : Belongs d b (track_of d b) → track_of d b ≡ no_track
    told (below k f l q) = let m = h k f in absurd (omega arith)
    told (past k f l q) = q
    told (outside f q) = q

-- and number 0 only then
pub number-none : (d : List ℕ) (b : ℕ) → (track_of d b).number ≡ 0 → (i : ℕ) → Greatest d b (rows d) i → out_at d i ≤ b
unfolding is_track
number-none d b h i g = elim (dec_le (out_at d i) b) [
  | yes k ↦ k
  | no k ↦ let p : point_at d i ≡ 0 = rw (track_of_of d b i g (lt_of_not-le k)) at h in
      let q = leb-true 1 (point_at d i) (and_head _ _ g.reaches.track) in absurd (omega arith)
]
