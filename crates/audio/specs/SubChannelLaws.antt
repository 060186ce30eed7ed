-- The laws of READ SUB-CHANNEL's answer: its two forms, and how long they are.
use Rattle.std.specs.Prelude.{◌≡◌, refl, Bool, true, false, ℕ, ◌≤◌}
use mathlib.Core.List.{List}
use Rattle.std.proofs.Common.{arith, length-append}
use Rattle.std.proofs.Math.ListN.{length}
use Rattle.ground.specs.Tests.{either, when, unless}
use Rattle.address.specs.Address.{shown_address}
use Rattle.address.specs.Laws.{shown_address-length}
use Rattle.play.specs.declared.Play.{Play}
use Rattle.tracks.specs.declared.track.Track.{Track}
use Rattle.audio.specs.declared.sub_channel.SubAsk.{SubAsk}
use Rattle.audio.specs.SubChannel.{shown_relative, relative, position_bytes, status_bytes, sub_bytes}

pub shown_relative-length : (msf : Bool) (n : ℕ) → length (shown_relative msf n) ≡ 4
unfolding shown_relative
shown_relative-length msf n = either (λ (l : List ℕ). length l ≡ 4) msf (λ h. refl) (λ h. refl)

pub position_bytes-length : (msf : Bool) (u : Track) (r : Play) → length (position_bytes msf u r) ≡ 16
position_bytes-length msf u r =
    let a = shown_address-length msf r.position in
    let b = shown_relative-length msf (relative u r.position) in
    let c = length-append (shown_address msf r.position) (shown_relative msf (relative u r.position)) in
    omega arith

module _ (ask : SubAsk) (u : Track) (r : Play) where
  pub sub_bytes-on : ask.sub_q ≡ true → sub_bytes ask u r ≡ position_bytes ask.msf u r
  unfolding sub_bytes
  sub_bytes-on h = when _ _ _ h

  pub sub_bytes-off : ask.sub_q ≡ false → sub_bytes ask u r ≡ status_bytes r
  unfolding sub_bytes
  sub_bytes-off h = unless _ _ _ h

  pub sub_bytes-length : length (sub_bytes ask u r) ≤ 16
  unfolding sub_bytes
  sub_bytes-length =
      either (λ (l : List ℕ). length l ≤ 16) ask.sub_q (λ h. let e = position_bytes-length ask.msf u r in omega arith) (λ h. omega arith)
