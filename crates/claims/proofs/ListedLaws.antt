-- MODE SELECT's is the only work that names the list, and 55h its only code.
use Rattle.std.specs.Prelude.{◌≡◌, Bool, false, List, ℕ, eqb}
use Rattle.std.proofs.Math.Path.{refl}
use Rattle.std.proofs.Common.{sym, ◌∙◌, true≢false}
use Rattle.deck.specs.declared.Deck.{Deck}
use Rattle.drive.specs.declared.state.Drive.{Drive}
use Rattle.command.specs.declared.decode.Command.{Command}
use Rattle.command.specs.declared.decode.Command.TheVariants.{TestUnitReady, RequestSense, Inquiry, StartStop, Prevent, ReadCapacity, Read10, Seek, ReadToc, Read12, PlayAudio, PauseResume, ReadSubChannel, ModeSense, ModeSelect, GetEvent, Unknown}
use Rattle.command.specs.Command.{decode, code_of}
use Rattle.command.specs.Class.{class_of}
use Rattle.command.specs.ClassLaws.{decode_is}
use Rattle.target.specs.Perform.{work, perform}
use Rattle.target.specs.Packet.{answer as reply_to}
use Rattle.claims.proofs.PacketLaws.{is_the, steps-performed}

abbrev is_select : Command → Bool
is_select c = is_the ModeSelect c

-- its code is 55h, and no other
decode_select : (n : ℕ) → eqb n 0x55 ≡ is_select (decode n)
unfolding class_of
decode_select = decode_is ModeSelect refl

module _ (k l : List ℕ) where
  work-unlisted : (c : Command) (p : List ℕ) (m : Deck) (t : List ℕ) → is_select c ≡ false → work c p m t k ≡ work c p m t l
  unfolding class_of
  work-unlisted TestUnitReady p m t h = refl
  work-unlisted RequestSense p m t h = refl
  work-unlisted Inquiry p m t h = refl
  work-unlisted StartStop p m t h = refl
  work-unlisted Prevent p m t h = refl
  work-unlisted ReadCapacity p m t h = refl
  work-unlisted Read10 p m t h = refl
  work-unlisted Seek p m t h = refl
  work-unlisted ReadToc p m t h = refl
  work-unlisted Read12 p m t h = refl
  work-unlisted PlayAudio p m t h = refl
  work-unlisted PauseResume p m t h = refl
  work-unlisted ReadSubChannel p m t h = refl
  work-unlisted ModeSense p m t h = refl
  work-unlisted ModeSelect p m t h = absurd (true≢false h)
  work-unlisted GetEvent p m t h = refl
  work-unlisted Unknown p m t h = refl

  perform-unlisted : (c : Command) (p : List ℕ) (m : Deck) (t : List ℕ) → is_select c ≡ false → perform c p m t k ≡ perform c p m t l
  unfolding perform
  perform-unlisted c p m t h = rw (work-unlisted c p m t h)

pub reply_unlisted : (d : Drive) (p t k l : List ℕ) (n : ℕ) → eqb (code_of p) 0x55 ≡ false → reply_to d p t k n ≡ reply_to d p t l n
unfolding reply_to
reply_unlisted d p t k l n h =
    rw (steps-performed d p t t k l (perform-unlisted k l (decode (code_of p)) p d.deck t (sym (decode_select (code_of p)) ∙ h)))
