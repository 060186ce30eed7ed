-- The response memory: bytes laid into it, and the laws for cutting and for lending the rest.
use Rattle.std.specs.Prelude.{◌≡◌, List, [], ◌++◌, ℕ, suc, ◌+◌, ◌-◌, ◌≤◌, ◌<◌, min, length, take, drop, set, get_or}
use Rattle.std.proofs.Common.{sym, ap, ◌∙◌, append_assoc, append-nil, arith, lt_of_not-le, zero-add, add-one, length-append, length-take, length-drop, take-append-drop, drop_of_length-le, take_all, take-take, drop-drop, length-take-le}
use Rattle.std.proofs.Math.Decide.{dec_le}
use Rattle.std.proofs.lemmas.List.{take-append-le, drop-append-le}
use Rattle.std.proofs.Math.Seq.{take-append-add, take-append_seam, drop-append_seam, paste-suc}

-- as many of the bytes b as m holds, and then what m held past them
unfoldable pub fill : List ℕ → List ℕ → List ℕ
fill m b = take (length m) b ++ drop (length b) m

-- the bytes b are laid into m: r of them went in, and m holds m' then
pub record Laid (m b : List ℕ) (r : ℕ) (m' : List ℕ) : Type 0 where
  pub count : r ≡ min (length b) (length m)
  pub bytes : m' ≡ fill m b

-- ---- fill

-- bytes that fit stand in front, and the rest is as it was
pub fill_fits : (m b : List ℕ) → length b ≤ length m → fill m b ≡ b ++ drop (length b) m
unfolding fill
fill_fits m b h = rw take_all

-- bytes that do not fit are cut
pub fill-over : (m b : List ℕ) → length m ≤ length b → fill m b ≡ take (length m) b
unfolding fill
fill-over m b h = rw drop_of_length-le (append-nil (take (length m) b))

-- no bytes change nothing
pub fill_none : (m : List ℕ) → fill m [] ≡ m
fill_none m = fill_fits m [] (omega arith)

-- the memory keeps its length
pub fill-length : (m b : List ℕ) → length (fill m b) ≡ length m
unfolding fill
fill-length m b = simp (length-append, length-take, length-drop) (omega arith)

-- bytes laid after bytes that fit: the second ones go into what the first ones left
pub fill-append : (m a b : List ℕ) → length a ≤ length m → fill m (a ++ b) ≡ a ++ fill (drop (length a) m) b
unfolding fill
fill-append m a b h =
    let e : length m ≡ length a + length (drop (length a) m) = simp length-drop (omega arith) in
    ap (λ (n : ℕ). take n (a ++ b) ++ drop (length (a ++ b)) m) e
    ∙ ap (λ (l : List ℕ). l ++ drop (length (a ++ b)) m) (take-append-add a b (length (drop (length a) m)))
    ∙ append_assoc a (take (length (drop (length a) m)) b) (drop (length (a ++ b)) m)
    ∙ ap (λ (n : ℕ). a ++ (take (length (drop (length a) m)) b ++ drop n m)) (length-append a b)
    ∙ ap (λ (l : List ℕ). a ++ (take (length (drop (length a) m)) b ++ l)) (sym (drop-drop (length b) (length a) m))

-- bytes laid after bytes that do not fit: nothing more goes in
pub fill_full : (m a b : List ℕ) → length m ≤ length a → fill m (a ++ b) ≡ fill m a
fill_full m a b h =
    fill-over m (a ++ b) (simp length-append (omega arith)) ∙ take-append-le (length m) a b h ∙ sym (fill-over m a h)

-- ---- Laid

-- nothing laid
pub laid_none : (m : List ℕ) → Laid m [] 0 m
laid_none m = record { count = omega arith; bytes = sym (fill_none m) }

-- the memory keeps its length
pub laid-length : {m b m' : List ℕ} {r : ℕ} → Laid m b r m' → length m' ≡ length m
laid-length {m} {b} l = ap length l.bytes ∙ fill-length m b

-- how many went in never passes the end
pub laid-within : {m b m' : List ℕ} {r : ℕ} → Laid m b r m' → r ≤ length m'
laid-within {m} {b} {m'} {r} l = let e = laid-length l in let k = l.count in omega arith

-- bytes that fit are all laid, and stand in front
pub laid_fits : {m b m' : List ℕ} {r : ℕ} → Laid m b r m' → length b ≤ length m → (r ≡ length b) × (take r m' ≡ b)
laid_fits {m} {b} {m'} {r} l h =
    let e : r ≡ length b = let k = l.count in omega arith in
    (e, ap (take r) (l.bytes ∙ fill_fits m b h) ∙ ap (λ (n : ℕ). take n (b ++ drop (length b) m)) e ∙ take-append_seam b (drop (length b) m))

-- two results of one laying are one
pub laid-only : {m b m₁ m₂ : List ℕ} {r s : ℕ} → Laid m b r m₁ → Laid m b s m₂ → (r ≡ s) × (m₁ ≡ m₂)
laid-only k l = (k.count ∙ sym l.count, k.bytes ∙ sym l.bytes)

-- the rest of a list from i on is the part of it up to its end
pub rest_all : (i : ℕ) (l : List ℕ) → take (length l - i) (drop i l) ≡ drop i l
rest_all i l = take_all (length l - i) (drop i l) (simp length-drop (omega arith))

-- nothing lies past the rest
pub rest-none : (i : ℕ) (l : List ℕ) → drop (length l - i) (drop i l) ≡ []
rest-none i l = drop_of_length-le (drop i l) {i = length l - i} (simp length-drop (omega arith))

-- bytes laid, and then more laid into the rest that begins where they ended: both laid, one after the other
pub laid_more :
    {m a m₁ b rest : List ℕ} {at r : ℕ} → Laid m a at m₁ → Laid (take (length m₁ - at) (drop at m₁)) b r rest
    → Laid m (a ++ b) (at + r) (take at m₁ ++ (rest ++ drop (length m₁ - at) (drop at m₁)))
laid_more {m} {a} {m₁} {b} {rest} {at} {r} k l₀ =
    let l : Laid (drop at m₁) b r rest = rw rest_all at l₀ in
    rw (rest-none at m₁, append-nil) (elim (dec_le (length a) (length m)) [ yes h ↦ fits h l | no h ↦ over (lt_of_not-le h) l ])
  where
    fits : length a ≤ length m → Laid (drop at m₁) b r rest → Laid m (a ++ b) (at + r) (take at m₁ ++ rest)
    fits h l =
        let e : at ≡ length a = let q = k.count in omega arith in
        let f : m₁ ≡ a ++ drop (length a) m = k.bytes ∙ fill_fits m a h in
        let g : drop at m₁ ≡ drop (length a) m = rw (e, f) (drop-append_seam a (drop (length a) m)) in
        let t : take at m₁ ≡ a = rw (e, f) (take-append_seam a (drop (length a) m)) in
        let q : r ≡ min (length b) (length (drop (length a) m)) = rw g at l.count in
        record {
          count = rw (length-append a b) (let z : length (drop (length a) m) ≡ length m - length a = length-drop (length a) m in omega arith);
          bytes = rw t (ap (λ (x : List ℕ). a ++ x) (l.bytes ∙ ap (λ (x : List ℕ). fill x b) g) ∙ sym (fill-append m a b h));
        }

    over : length m < length a → Laid (drop at m₁) b r rest → Laid m (a ++ b) (at + r) (take at m₁ ++ rest)
    over h l =
        let n : length m₁ ≡ length m = laid-length k in
        let e : at ≡ length m₁ = let q = k.count in omega arith in
        let g : drop at m₁ ≡ [] = drop_of_length-le m₁ {i = at} (omega arith) in
        let t : take at m₁ ≡ m₁ = take_all at m₁ (omega arith) in
        let q : r ≡ min (length b) (length (drop at m₁)) = l.count in
        let f : rest ≡ [] = l.bytes ∙ ap (λ (x : List ℕ). fill x b) g ∙ fill-over [] b (omega arith) in
        record {
          count = rw (length-append a b) (let z : length (drop at m₁) ≡ length m₁ - at = length-drop at m₁ in let p = k.count in omega arith);
          bytes = rw (t, f, append-nil) (k.bytes ∙ sym (fill_full m a b (omega arith)));
        }

-- the first `room` bytes laid into the front of the memory, the smaller of room and memory long
pub laid-cut :
    (room : ℕ) {m b part : List ℕ} {e r : ℕ} → e ≡ min room (length m) → Laid (take e m) b r part → Laid m (take room b) r (part ++ drop e m)
laid-cut room {m} {b} {part} {e} {r} h l =
    let n : length (take e m) ≡ e = length-take-le e m (omega arith) in
    let k : length (take room b) ≡ min room (length b) = length-take room b in
    record {
      count = let q = l.count in omega arith;
      bytes = ap (λ (x : List ℕ). x ++ drop e m) l.bytes
          ∙ elim (dec_le (length b) e) [ yes f ↦ fits n f | no f ↦ over n k (lt_of_not-le f) (dec_le room (length m)) ];
    }
  where
    fits : length (take e m) ≡ e → length b ≤ e → fill (take e m) b ++ drop e m ≡ fill m (take room b)
    fits n f =
        let p : drop (length b) (take e m) ++ drop e m ≡ drop (length b) m =
        sym (drop-append-le (length b) (take e m) (drop e m) (omega arith)) ∙ ap (drop (length b)) (take-append-drop e m) in
        ap (λ (x : List ℕ). x ++ drop e m) (fill_fits (take e m) b (omega arith))
        ∙ append_assoc b (drop (length b) (take e m)) (drop e m)
        ∙ ap (λ (x : List ℕ). b ++ x) p
        ∙ sym (fill_fits m b (omega arith))
        ∙ ap (fill m) (sym (take_all room b (omega arith)))

    over : length (take e m) ≡ e → length (take room b) ≡ min room (length b) → e < length b → Dec (room ≤ length m)
        → fill (take e m) b ++ drop e m ≡ fill m (take room b)
    over n k f d =
        ap (λ (x : List ℕ). x ++ drop e m) (fill-over (take e m) b (omega arith) ∙ ap (λ (i : ℕ). take i b) n)
        ∙ elim d [
          | yes g ↦ (let q : e ≡ room = omega arith in let w : length (take room b) ≡ room = omega arith in
              rw q (ap (λ (i : ℕ). take room b ++ drop i m) (sym w) ∙ sym (fill_fits m (take room b) (omega arith))))
          | no g ↦ (let j = lt_of_not-le g in let q : e ≡ length m = omega arith in
              rw q (rw (drop_of_length-le m {i = length m} (omega arith), append-nil)
              (sym (take-take (length m) room b (omega arith)) ∙ sym (fill-over m (take room b) (omega arith)))))
        ]

-- as many of the bytes as the memory holds, set into its front: the bytes are laid
pub laid_front : (m s : List ℕ) (n : ℕ) → n ≡ min (length s) (length m) → Laid m s n (take n s ++ drop n m)
unfolding fill
laid_front m s n h = record {
  count = h;
  bytes = elim (dec_le (length s) (length m)) [
    | yes k ↦ (let e : n ≡ length s = omega arith in
        rw e (rw (take_all (length s) s (omega arith), take_all (length m) s (omega arith))))
    | no k ↦ (let l = lt_of_not-le k in let e : n ≡ length m = omega arith in
        rw e (rw (drop_of_length-le m {i = length m} (omega arith), drop_of_length-le m {i = length s} (omega arith))))
  ];
}

-- ---- one byte after the other

-- the next byte stored: one more is laid
pub laid_next :
    {m m₁ : List ℕ} (s : List ℕ) (i : ℕ) → i < length s → i < length m → Laid m (take i s) i m₁ → Laid m (take (i + 1) s) (i + 1) (set m₁ i (get_or s i 0))
laid_next {m} {m₁} s i h k l =
    let n : length (take i s) ≡ i = length-take-le i s (omega arith) in
    let n' : length (take (i + 1) s) ≡ i + 1 = length-take-le (i + 1) s (omega arith) in
    let f : m₁ ≡ take i s ++ drop i m = l.bytes ∙ fill_fits m (take i s) (omega arith) ∙ ap (λ (x : ℕ). take i s ++ drop x m) n in
    record {
      count = omega arith;
      bytes = ap (λ (x : List ℕ). set x i (get_or s i 0)) f
          ∙ copied
          ∙ sym (fill_fits m (take (i + 1) s) (omega arith) ∙ ap (λ (x : ℕ). take (i + 1) s ++ drop x m) n');
    }
  where
    copied : set (take i s ++ drop i m) i (get_or s i 0) ≡ take (i + 1) s ++ drop (i + 1) m
    copied = rw (add-one i) (rw (zero-add i, zero-add (suc i)) at (paste-suc m 0 s i 0 (rw (zero-add i) k) h))

-- the memory is full: the rest of the bytes is cut
pub laid_full : {m m₁ : List ℕ} (s : List ℕ) (i : ℕ) → i < length s → length m ≤ i → Laid m (take i s) i m₁ → Laid m s i m₁
laid_full {m} {m₁} s i h k l =
    let n : length (take i s) ≡ i = length-take-le i s (omega arith) in
    record {
      count = let q = l.count in omega arith;
      bytes = l.bytes ∙ fill-over m (take i s) (omega arith) ∙ take-take (length m) i s (omega arith) ∙ sym (fill-over m s (omega arith));
    }

-- the bytes are at their end: all are laid
pub laid_end : {m m₁ : List ℕ} (s : List ℕ) (i : ℕ) → length s ≤ i → Laid m (take i s) i m₁ → Laid m s i m₁
laid_end {m} {m₁} s i h l = rw take_all at l
