-- The parts in which two states differ: there are none exactly when the states are the same.
use Rattle.std.specs.Prelude.{◌≡◌, refl, Bool, true, false, ◌↔◌}
use Rattle.std.proofs.Common.{sym, eq-eqb, eqb-true}
use mathlib.Core.List.{List, [], nil≢cons}
use Rattle.ground.specs.Tests.{and_head, and_tail, and_both}
use Rattle.play.specs.declared.Play.{Play}
use Rattle.page.specs.declared.Page.{Page}
use Rattle.drive.specs.declared.state.Drive.{Drive}
use Rattle.attention.specs.SenseLaws.{same_sense-eq, same_sense_refl}
use Rattle.claims.specs.Differing.{Part, same_flag, same_play, same_page, add, differing}

-- ---- the laws

same_flag-eq : (b c : Bool) → same_flag b c ≡ true → b ≡ c
unfolding same_flag
same_flag-eq true c h = sym h
same_flag-eq false true h = h
same_flag-eq false false h = refl

same_flag_refl : (b : Bool) → same_flag b b ≡ true
unfolding same_flag
same_flag_refl true = refl
same_flag_refl false = refl

same_play-eq : (r s : Play) → same_play r s ≡ true → r ≡ s
unfolding same_play
same_play-eq r s h =
    let t = and_tail _ _ h in
    let a = eqb-true r.status s.status (and_head _ _ h) in
    let b = eqb-true r.position s.position (and_head _ _ t) in
    let c = eqb-true r.end s.end (and_tail _ _ t) in
    λ i. record { status = a i; position = b i; end = c i }

same_play_refl : (r : Play) → same_play r r ≡ true
unfolding same_play
same_play_refl r = and_both _ _ (eq-eqb r.status _ refl) (and_both _ _ (eq-eqb r.position _ refl) (eq-eqb r.end _ refl))

same_page-eq : (g h : Page) → same_page g h ≡ true → g ≡ h
unfolding same_page
same_page-eq g h e =
    let a = eqb-true g.recovery h.recovery (and_head _ _ e) in
    let b = eqb-true g.retry h.retry (and_tail _ _ e) in
    λ i. record { recovery = a i; retry = b i }

same_page_refl : (g : Page) → same_page g g ≡ true
unfolding same_page
same_page_refl g = and_both _ _ (eq-eqb g.recovery _ refl) (eq-eqb g.retry _ refl)

-- a list that nothing was added to
add_none : (b : Bool) (part : Part) (parts : List Part) → add b part parts ≡ [] → (b ≡ true) × (parts ≡ [])
unfolding add
add_none true part parts h = (refl, h)
add_none false part parts h = absurd (nil≢cons (sym h))

differing_self : (d : Drive) → differing d d ≡ []
unfolding differing add
differing_self d =
    let a = same_flag_refl d.unit.power in
    let b = same_flag_refl d.unit.change in
    let c = same_sense_refl d.unit.sense in
    let t = same_flag_refl d.deck.tray_open in
    let o = same_flag_refl d.deck.disc_in in
    let l = same_flag_refl d.deck.lock in
    let r = same_play_refl d.deck.play in
    let g = same_page_refl d.deck.page in
    let v = eq-eqb d.deck.event _ refl in
    rw (a, b, c, t, o, l, r, g, v)

-- each part is the same, so the state is
same_of : (d e : Drive) → differing d e ≡ [] → d ≡ e
unfolding differing
same_of d e h =
    let a = add_none _ _ _ h in
    let b = add_none _ _ _ a.1 in
    let c = add_none _ _ _ b.1 in
    let t = add_none _ _ _ c.1 in
    let o = add_none _ _ _ t.1 in
    let l = add_none _ _ _ o.1 in
    let r = add_none _ _ _ l.1 in
    let g = add_none _ _ _ r.1 in
    let v = add_none _ _ _ g.1 in
    let power-same = same_flag-eq _ _ a.0 in
    let change-same = same_flag-eq _ _ b.0 in
    let sense-same = same_sense-eq _ _ c.0 in
    let tray-same = same_flag-eq _ _ t.0 in
    let disc-same = same_flag-eq _ _ o.0 in
    let lock-same = same_flag-eq _ _ l.0 in
    let play-same = same_play-eq _ _ r.0 in
    let page-same = same_page-eq _ _ g.0 in
    let event-same = eqb-true _ _ v.0 in
    λ i. record {
      unit = record { power = power-same i; change = change-same i; sense = sense-same i };
      deck = record {
        tray_open = tray-same i;
        disc_in = disc-same i;
        lock = lock-same i;
        play = play-same i;
        page = page-same i;
        event = event-same i;
      };
    }

pub differing-none : (d e : Drive) → (differing d e ≡ []) ↔ (d ≡ e)
differing-none d e = (same_of d e, λ h. rw h (differing_self e))
