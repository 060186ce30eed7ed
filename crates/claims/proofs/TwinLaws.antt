-- On a disc of one session every command but READ TOC by format 2 asks the table for its contents alone, and a drive that is not loaded
-- asks it for nothing.
use Rattle.std.specs.Prelude.{◌≡◌, refl, Bool, true, false, not, List, ltb}
use Rattle.std.proofs.Math.Path.{sym, ap}
use Rattle.std.proofs.Common.{◌∙◌, arith, eq-eqb, ne_eqb, le-ltb}
use Rattle.std.proofs.lemmas.Bool.{false≢true}
use Prim.Native.Nat.{ℕ, ◌+◌}
use Rattle.std.proofs.Math.Decide.{ℕ_discrete}
use Rattle.ground.specs.Tests.{◌and◌, choose◌then◌else◌, when, unless, and_both, every-same}
use Rattle.attention.specs.Unit.{attend}
use Rattle.deck.specs.declared.Deck.{Deck}
use Rattle.deck.specs.Deck.{is_loaded}
use Rattle.drive.specs.declared.state.Drive.{Drive}
use Rattle.table.specs.Layout.{descriptors}
use Rattle.disc.specs.Rules.{is_fit}
use Rattle.disc.specs.Disc.{disc_of}
use Rattle.disc.specs.declared.disc.Disc.{Disc}
use Rattle.tracks.specs.declared.track.Track.{Track}
use Rattle.tracks.specs.declared.track.Mode.{Mode}
use Rattle.tracks.specs.declared.track.Mode.TheVariants.{Data, Audio}
use Rattle.tracks.specs.declared.track.Ask.TheVariants.{Block}
use Rattle.tracks.specs.Track.{no_track, track_of, is_mode, in_mode, all_in}
use Rattle.gate.specs.Unit.{clear, pending_of}
use Rattle.gate.specs.Gate.{good, gate}
use Rattle.command.specs.declared.decode.Command.{Command}
use Rattle.command.specs.declared.decode.Command.TheVariants.{TestUnitReady, RequestSense, Inquiry, StartStop, Prevent, ReadCapacity, Read10, Seek, ReadToc, Read12, PlayAudio, PauseResume, ReadSubChannel, ModeSense, ModeSelect, GetEvent, Unknown}
use Rattle.command.specs.Command.{needs_disc, address_in, count10, count12, length_in, code_of, decode}
use Rattle.command.specs.Class.{class_of}
use Rattle.command.specs.ClassLaws.{decode_is}
use Rattle.command.specs.Done.{answering, answering-fails}
use Rattle.toc.specs.Answer.{format1, toc_bytes, toc_bad}
use Rattle.toc.specs.AnswerLaws.{toc_bytes_0, toc_bytes_1}
use Rattle.blocks.specs.Blocks.{read_capacity, seek}
use Rattle.target.specs.ReadToc.{format_in, msf_in, number_in, read_toc}
use Rattle.target.specs.Perform.{L, work, perform}
use Rattle.target.specs.Packet.{answer as reply_to}
use Rattle.target.specs.PacketLaws.{steps_of}
use Rattle.claims.specs.Telling.{power, change, any_pending}
use Rattle.claims.proofs.UnitLaws.{none-pending}
use Rattle.claims.proofs.WholeLaws.{second_holds}
use Rattle.claims.proofs.PacketLaws.{is_the, steps-performed, packet-steps}
use Rattle.claims.specs.Contents.{list_with, track_list, list_packet, Contents, contents_of, list_of, Single, is_format2}
use Rattle.claims.proofs.ContentsLaws.{list-made}
use Rattle.claims.proofs.SingleLaws.{found_among, single-track, disc_in, single-disc}

-- ---- what the commands ask of a table

-- two tables that they do not tell apart: the disc that is read off them, the track of each block, and the track list by MSF and N
pub record SameNeeds (t u : List ℕ) : Type 0 where
  pub disc : disc_of t ≡ disc_of u
  pub track : (b : ℕ) → track_of (descriptors t) b ≡ track_of (descriptors u) b
  pub list : (msf : Bool) (n : ℕ) → list_with msf n t ≡ list_with msf n u

-- of one session with the same contents
pub contents-same : {t u : List ℕ} → Single t → Single u → contents_of t ≡ contents_of u → SameNeeds t u
unfolding track_of
contents-same {t} {u} a b e = record {
  disc = single-disc a ∙ ap disc_in e ∙ sym (single-disc b);
  track = λ n. ap (below n) (single-track a (Block n) ∙ ap (λ (c : Contents). found_among (Block n) c.session_lead_out c.tracks no_track) e ∙ sym (single-track b (Block n)));
  list = λ msf n. list-made msf n t ∙ ap (list_of msf n) e ∙ sym (list-made msf n u);
}
  where
    below : ℕ → Track → Track
    below n w = choose ltb n w.out then w else no_track

module _ {t u : List ℕ} (s : SameNeeds t u) where
  -- READ TOC, but format 2: another format is a fault of any disc
  read_toc-same : (p : List ℕ) (m : Deck) → (format_in p ≡ 2 → ⊥) → read_toc p m t ≡ read_toc p m u
  unfolding toc_bad
  read_toc-same p m h = elim (ℕ_discrete (format_in p) 0) [
    | yes e ↦ by_bytes (toc_bytes_0 _ _ (msf_in p) n _ e ∙ s.list (msf_in p) n ∙ sym (toc_bytes_0 _ _ (msf_in p) n _ e))
    | no e ↦ elim (ℕ_discrete (format_in p) 1) [
      | yes k ↦ by_bytes (toc_bytes_1 _ _ (msf_in p) n _ k ∙ ap (λ (x : Disc). format1 x (msf_in p)) s.disc ∙ sym (toc_bytes_1 _ _ (msf_in p) n _ k))
      | no k ↦ answering-fails m _ _ (bad t e k) ∙ sym (answering-fails m _ _ (bad u e k))
    ]
  ]
    where
      n : ℕ
      n = number_in p

      bytes : List ℕ → List ℕ
      bytes x = toc_bytes (disc_of x) (format_in p) (msf_in p) n (descriptors x)

      by_bytes : bytes t ≡ bytes u → read_toc p m t ≡ read_toc p m u
      by_bytes q = λ i. answering (toc_bad (s.disc i) (format_in p) n) m (q i) (length_in p)

      bad : (x : List ℕ) → (format_in p ≡ 0 → ⊥) → (format_in p ≡ 1 → ⊥) → toc_bad (disc_of x) (format_in p) n ≡ true
      bad x e k = unless _ _ _ (ne_eqb _ 0 e) ∙ unless _ _ _ (ne_eqb _ 1 k) ∙ unless _ _ _ (ne_eqb _ 2 h)

  blocks-same : (mode : Mode) (a n : ℕ) → all_in mode (descriptors t) a n ≡ all_in mode (descriptors u) a n
  unfolding all_in in_mode
  blocks-same mode a n = every-same n _ _ (λ i k. ap (is_mode mode) (s.track (a + i)))

  lead-same : L t ≡ L u
  lead-same = ap (λ (x : Disc). x.lead_out) s.disc

-- two tables that a packet does not tell apart: both fit, and it is not READ TOC by format 2
pub record Met (t u p : List ℕ) : Type 0 where
  pub fit : is_fit t ≡ true
  pub other : is_fit u ≡ true
  pub needs : SameNeeds t u
  pub format : is_format2 p ≡ false

-- the commands that look at the table are among those that need a disc
work-same : (c : Command) (p : List ℕ) (m : Deck) (t u l : List ℕ) → (needs_disc c p ≡ true → SameNeeds t u × (is_the ReadToc c ≡ true → format_in p ≡ 2 → ⊥))
    → work c p m t l ≡ work c p m u l
unfolding class_of
work-same TestUnitReady p m t u l s = refl
work-same RequestSense p m t u l s = refl
work-same Inquiry p m t u l s = refl
work-same StartStop p m t u l s = refl
work-same Prevent p m t u l s = refl
work-same ReadCapacity p m t u l s = ap (λ (x : ℕ). read_capacity x m) (lead-same (s refl).0)
work-same Read10 p m t u l s = rw (lead-same (s refl).0, blocks-same (s refl).0 Data (address_in p) (count10 p))
work-same Seek p m t u l s = ap (λ (x : ℕ). seek (address_in p) x m) (lead-same (s refl).0)
work-same ReadToc p m t u l s = read_toc-same (s refl).0 p m ((s refl).1 refl)
work-same Read12 p m t u l s = rw (lead-same (s refl).0, blocks-same (s refl).0 Data (address_in p) (count12 p))
work-same PlayAudio p m t u l s = rw (lead-same (s refl).0, blocks-same (s refl).0 Audio (address_in p) (count10 p))
work-same PauseResume p m t u l s = refl
work-same ReadSubChannel p m t u l s = rw ((s refl).0.track m.play.position)
work-same ModeSense p m t u l s = refl
work-same ModeSelect p m t u l s = refl
work-same GetEvent p m t u l s = refl
work-same Unknown p m t u l s = refl

-- and fail before that where the drive is not loaded
perform-same : (c : Command) (p : List ℕ) (m : Deck) (t u l : List ℕ) → (is_loaded m ≡ true → SameNeeds t u × (is_the ReadToc c ≡ true → format_in p ≡ 2 → ⊥))
    → perform c p m t l ≡ perform c p m u l
unfolding perform
perform-same c p m t u l s = by-disc (needs_disc c p and not (is_loaded m)) refl
  where
    by-disc : (b : Bool) → needs_disc c p and not (is_loaded m) ≡ b → perform c p m t l ≡ perform c p m u l
    by-disc true e = when _ _ _ e ∙ sym (when _ _ _ e)
    by-disc false e = unless _ _ _ e ∙ work-same c p m t u l (λ n. s (second_holds _ _ e n)) ∙ sym (unless _ _ _ e)

-- "When not loaded, the table isn't looked at": so of a loaded drive alone something is asked
pub reply-same : (d : Drive) (p t u l : List ℕ) (n : ℕ) → (is_loaded d.deck ≡ true → Met t u p) → reply_to d p t l n ≡ reply_to d p u l n
unfolding class_of
reply-same d p t u l n s =
    let c = decode (code_of p) in
    let h = perform-same c p d.deck t u l (λ i.
    ((s i).needs, λ e k. false≢true (sym (s i).format ∙ and_both _ _ (decode_is ReadToc refl (code_of p) ∙ e) (eq-eqb _ _ k)))) in
    packet-steps d p t u l l n (λ i. ((s i).fit, (s i).other)) (steps-performed d p t u l l h)

-- ---- the packet that asks for the track list

-- of a loaded drive with nothing pending the steps answer it, and cut it at FFFFh bytes
pub steps-list : (d : Drive) (t l : List ℕ) → is_loaded d.deck ≡ true → any_pending d.unit ≡ false
    → steps_of d list_packet t l ≡ good (track_list t) 0xFFFF 0 0 (clear d.unit) d.deck
unfolding decode choose◌then◌else◌ gate pending_of perform answering toc_bad toc_bytes attend ◌and◌
steps-list d t l h a =
    rw (h, none-pending power d.unit a, none-pending change d.unit a, le-ltb (disc_of t).last 0 (omega arith))
