-- Laws of a run of blocks: one step of the test, for the code; then that the test tells of every block.
use Rattle.std.specs.Prelude.{◌≡◌, refl, Bool, true, false, not, List, ℕ, zero, suc, ◌+◌, ◌-◌, ◌≤◌, ◌<◌, eqb}
use Rattle.std.proofs.Common.{sym, ◌∙◌, arith, lt_of_not-le, le-leb, lt-ltb, le-ltb, eq-eqb, ne_eqb}
use Rattle.std.proofs.lemmas.Bool.{false≢true, lt-leb}
use Rattle.std.proofs.Math.Decide.{dec_le, ℕ_discrete}
use Rattle.ground.specs.Tests.{◌and◌, ◌or◌, every, and_on, and_off, and_late, and_head, and_tail, and_both, when, unless, every-at, every-all}
use Rattle.table.specs.Layout.{rows, flags_at, point_at, A2, is_track}
use Rattle.table.specs.Row.{address_at}
use Rattle.tracks.specs.Track.{flagged, out_at, track_with, track_at, found, track_of, is_mode, in_mode, all_in, passes, all_pass, run_is}
use Rattle.disc.specs.RulesLaws.{same_test}
use Rattle.tracks.specs.TrackLaws.{next_out-here, next_out_on, Greatest, Found, here, none, only_greatest, found_greatest, Belongs, below, past, outside, track_of_belongs, track_of_of}
use Rattle.tracks.specs.declared.track.Track.{Track}
use Rattle.tracks.specs.declared.track.Mode.{Mode}
use Rattle.tracks.specs.declared.track.Ask.TheVariants.{Block}

-- ---- the run

-- the descriptor's address is before the run
pub passes-before : (mode : Mode) (c : Track) (a e : ℕ) → c.start < a → passes mode c a e ≡ true
unfolding passes
passes-before mode c a e h = unless _ _ _ (sym (and_off _ _ (lt-leb _ _ h)))

-- the descriptor's address is past the run
pub passes-past : (mode : Mode) (c : Track) (a e : ℕ) → e ≤ c.start → passes mode c a e ≡ true
unfolding passes
passes-past mode c a e h = unless _ _ _ (sym (and_late _ _ (sym (le-ltb _ _ h))))

-- a track that starts within the run has to be of that mode
pub passes_track : (mode : Mode) (c : Track) (a e : ℕ) → a ≤ c.start → c.start < e → is_track c.number ≡ true → passes mode c a e ≡ flagged mode c.flags
unfolding passes
passes_track mode c a e h k t = when _ _ _ (and_both _ _ (le-leb _ _ h) (lt-ltb _ _ k)) ∙ when _ _ _ t

-- any other descriptor whose address is within the run must not be a lead-out
pub passes_other : (mode : Mode) (c : Track) (a e : ℕ) → a ≤ c.start → c.start < e → is_track c.number ≡ false → passes mode c a e ≡ not (eqb c.number A2)
unfolding passes
passes_other mode c a e h k t = when _ _ _ (and_both _ _ (le-leb _ _ h) (lt-ltb _ _ k)) ∙ unless _ _ _ t

-- its session's lead-out has no part in it
pub passes-read : (mode : Mode) (d : List ℕ) (j a e : ℕ) {out : ℕ} {c : Track} → c ≡ track_with d j out → passes mode c a e ≡ passes mode (track_at d j) a e
unfolding passes
passes-read mode d j a e h = rw h

-- an empty run passes
pub run_none : (mode : Mode) (d : List ℕ) (a n : ℕ) → n ≡ 0 → run_is mode d a n ≡ true
unfolding run_is ◌or◌
run_none mode d a n h = rw (eq-eqb n 0 h)

-- a run of some blocks: the first one and every descriptor decide
pub run_some : (mode : Mode) (d : List ℕ) (a n : ℕ) → (n ≡ 0 → ⊥) → run_is mode d a n ≡ in_mode mode d a and all_pass mode d a (a + n)
unfolding run_is ◌or◌
run_some mode d a n h = rw (ne_eqb n 0 h)

-- the first block lies in no track of that mode: the run does not
pub run_off : (mode : Mode) (d : List ℕ) (a n : ℕ) → (n ≡ 0 → ⊥) → in_mode mode d a ≡ false → run_is mode d a n ≡ false
run_off mode d a n h k = run_some mode d a n h ∙ sym (and_off _ _ k)

-- the first block lies in a track of that mode: the descriptors decide
pub run_on : (mode : Mode) (d : List ℕ) (a n : ℕ) → (n ≡ 0 → ⊥) → in_mode mode d a ≡ true → run_is mode d a n ≡ all_pass mode d a (a + n)
run_on mode d a n h k = run_some mode d a n h ∙ sym (and_on _ _ k refl)

-- ---- a block in a track of that mode

-- block b lies in a track of that mode, and which
pub record ModeTrack (mode : Mode) (d : List ℕ) (b : ℕ) : Type 0 where
  pub index : ℕ
  pub greatest : Greatest d b (rows d) index
  pub below : b < out_at d index
  pub flagged : flagged mode (flags_at d index) ≡ true

no_track_number : is_track 0 ≡ false
unfolding is_track ◌and◌
no_track_number = refl

pub in_mode_track : (mode : Mode) (d : List ℕ) (b : ℕ) → in_mode mode d b ≡ true → ModeTrack mode d b
unfolding in_mode is_mode
in_mode_track mode d b h = told (track_of_belongs d b)
  where
    never : is_track 0 ≡ true → ModeTrack mode d b
    never e = absurd (false≢true (sym no_track_number ∙ e))

    told : Belongs d b (track_of d b) → ModeTrack mode d b
    told (below k f l q) = record { index = k; greatest = f; below = l; flagged = rw q at (and_tail _ _ h) }
    told (past k f l q) = never (rw q at (and_head _ _ h))
    told (outside f q) = never (rw q at (and_head _ _ h))

pub track-in_mode : (mode : Mode) (d : List ℕ) (b : ℕ) → ModeTrack mode d b → in_mode mode d b ≡ true
unfolding in_mode is_mode
track-in_mode mode d b t =
    rw (track_of_of d b t.index t.greatest t.below) (and_both _ _ t.greatest.reaches.track t.flagged)

-- ---- the run test tells of every block of the run

-- what the run test leans on: sessions in order have it by rule 7, "track starts rise strictly, a session's last track starts before its lead-out,
-- and the next session's first track after that lead-out"
pub record Spread (d : List ℕ) : Type 0 where
  -- no two tracks start at one block
  pub distinct :
      (i j : ℕ) → i < rows d → j < rows d → is_track (point_at d i) ≡ true → is_track (point_at d j) ≡ true → address_at d i ≡ address_at d j → i ≡ j
  -- a track starts before its session's lead-out
  pub starts : (i : ℕ) → i < rows d → is_track (point_at d i) ≡ true → address_at d i < out_at d i
  -- no lead-out stands within a track: one that is not before its start is not before its session's lead-out
  pub clear :
      (i j : ℕ) → i < rows d → j < rows d → is_track (point_at d i) ≡ true → point_at d j ≡ A2 → address_at d i ≤ address_at d j → out_at d i ≤ address_at d j

-- a lead-out is the address of an A2 descriptor
pub record LeadOut (d : List ℕ) (n a : ℕ) : Type 0 where
  pub index : ℕ
  pub listed : index < n
  pub point : point_at d index ≡ A2
  pub address : a ≡ address_at d index

pub out_at-stands : (d : List ℕ) (n : ℕ) → 0 < out_at d n → LeadOut d n (out_at d n)
unfolding out_at
out_at-stands d zero h = absurd (omega arith)
out_at-stands d (suc n) h = elim (ℕ_discrete (point_at d n) A2) [
  | yes e ↦ record { index = n; listed = omega arith; point = e; address = next_out-here (track_at d n) e }
  | no e ↦ let q = next_out_on (track_at d n) e in
      let l = out_at-stands d n (rw q at h) in
      record { index = l.index; listed = let k = l.listed in omega arith; point = l.point; address = q ∙ l.address }
]

lead_out-no_track : is_track A2 ≡ false
unfolding is_track ◌and◌
lead_out-no_track = refl

module _ (mode : Mode) (d : List ℕ) (a e : ℕ) where
  -- no lead-out stands within a run that passes
  pub no-lead_out : all_pass mode d a e ≡ true → (j : ℕ) → j < rows d → point_at d j ≡ A2 → a ≤ address_at d j → address_at d j < e → ⊥
  no-lead_out h j k p l m =
      let t : is_track (point_at d j) ≡ false = rw p lead_out-no_track in
      let q : true ≡ not (eqb (point_at d j) A2) = sym (every-at _ _ h j k) ∙ passes_other mode (track_at d j) a e l m t in
      let r : eqb (point_at d j) A2 ≡ true = eq-eqb _ _ p in
      let w : true ≡ false = rw r at q in
      let z : ◌≡◌ {A = ℕ} 0 1 = cc in omega arith

  -- so a track whose lead-out is past the run's first block has it past the run's blocks
  pub out-past : all_pass mode d a e ≡ true → (i b : ℕ) → i < rows d → a < out_at d i → b < e → b < out_at d i
  out-past h i b k l m = elim (dec_le (out_at d i) b) [
    | yes g ↦ let o = out_at-stands d i (omega arith) in
        let q = o.address in
        absurd (no-lead_out h o.index (let r = o.listed in omega arith) o.point (omega arith) (omega arith))
    | no g ↦ lt_of_not-le g
  ]

module _ (mode : Mode) (d : List ℕ) (s : Spread d) (a e : ℕ) where
  -- the run test holds: each block lies in a track of that mode
  pub run-blocks : in_mode mode d a ≡ true → all_pass mode d a e ≡ true → (b : ℕ) → a ≤ b → b < e → in_mode mode d b ≡ true
  run-blocks f h b k m = told (in_mode_track mode d a f) (found_greatest d b (rows d))
    where
      told : ModeTrack mode d a → Found d b (rows d) (found (Block b) d (rows d)) → in_mode mode d b ≡ true
      told t (here i g q) = elim (dec_le (address_at d i) a) [
        | yes l ↦ let n : Greatest d a (rows d) i = record {
          listed = g.listed;
          reaches = record { track = g.reaches.track; start = l };
          greatest = λ j v r. g.greatest j v (record { track = r.track; start = let w = r.start in omega arith });
          last = λ j v r. g.last j v (record { track = r.track; start = let w = r.start in omega arith });
        } in
            let c : t.index ≡ i = only_greatest t.greatest n in
            track-in_mode mode d b (record {
              index = i;
              greatest = g;
              below = out-past mode d a e h i b g.listed (rw c at t.below) m;
              flagged = rw c at t.flagged;
            })
        | no l ↦ let r = lt_of_not-le l in
            let v = s.starts i g.listed g.reaches.track in
            let w = g.reaches.start in
            track-in_mode mode d b (record {
              index = i;
              greatest = g;
              below = out-past mode d a e h i b g.listed (omega arith) m;
              flagged = sym (passes_track mode (track_at d i) a e (omega arith) (omega arith) g.reaches.track) ∙ every-at _ _ h i g.listed;
            })
      ]
      told t (none n q) =
          let g = t.greatest in
          absurd (n t.index g.listed (record { track = g.reaches.track; start = let w = g.reaches.start in omega arith }))

  -- each block lies in a track of that mode: every descriptor lets the run pass
  pub blocks-pass : ((b : ℕ) → a ≤ b → b < e → in_mode mode d b ≡ true) → (j : ℕ) → j < rows d → passes mode (track_at d j) a e ≡ true
  blocks-pass f j k = elim (dec_le a (address_at d j)) [
    | no h ↦ passes-before mode (track_at d j) a e (lt_of_not-le h)
    | yes h ↦ elim (dec_le e (address_at d j)) [
      | yes l ↦ passes-past mode (track_at d j) a e l
      | no l ↦ kind (is_track (point_at d j)) refl h (lt_of_not-le l) (in_mode_track mode d (address_at d j) (f (address_at d j) h (lt_of_not-le l)))
    ]
  ]
    where
      kind : (w : Bool) → is_track (point_at d j) ≡ w → a ≤ address_at d j → address_at d j < e → ModeTrack mode d (address_at d j) → passes mode (track_at d j) a e ≡ true
      kind true w h l t =
          let g = t.greatest in
          let p = g.greatest j k (record { track = w; start = omega arith }) in
          let q = g.reaches.start in
          let c : t.index ≡ j = s.distinct t.index j g.listed k g.reaches.track w (omega arith) in
          passes_track mode (track_at d j) a e h l w ∙ rw c at t.flagged
      kind false w h l t = passes_other mode (track_at d j) a e h l w ∙ elim (ℕ_discrete (point_at d j) A2) [
        | yes c ↦ let g = t.greatest in
            let p = s.clear t.index j g.listed k g.reaches.track c g.reaches.start in
            let q = t.below in absurd (omega arith)
        | no c ↦ rw (ne_eqb _ _ c)
      ]

-- the run test is that every one of the n blocks from a on lies in a track of that mode
pub run_agrees : (mode : Mode) (d : List ℕ) → Spread d → (a n : ℕ) → run_is mode d a n ≡ all_in mode d a n
unfolding all_in
run_agrees mode d s a n = elim (ℕ_discrete n 0) [
  | yes e ↦ run_none mode d a n e ∙ sym (every-all n _ (λ i k. absurd (omega arith)))
  | no e ↦ same_test _ _ (λ h. all e h) (λ h. run e (every-at n _ h))
]
  where
    all : (n ≡ 0 → ⊥) → run_is mode d a n ≡ true → every n (λ i. in_mode mode d (a + i)) ≡ true
    all e h =
        let b = sym (run_some mode d a n e) ∙ h in
        every-all n _ (λ i k. run-blocks mode d s a (a + n) (and_head _ _ b) (and_tail _ _ b) (a + i) (omega arith) (omega arith))

    run : (n ≡ 0 → ⊥) → ((i : ℕ) → i < n → in_mode mode d (a + i) ≡ true) → run_is mode d a n ≡ true
    run e f =
        let each : (b : ℕ) → a ≤ b → b < a + n → in_mode mode d b ≡ true = λ b h k. let q : a + (b - a) ≡ b = omega arith in rw q at (f (b - a) (omega arith)) in
        run_on mode d a n e (each a (omega arith) (omega arith)) ∙ every-all (rows d) _ (blocks-pass mode d s a (a + n) each)
