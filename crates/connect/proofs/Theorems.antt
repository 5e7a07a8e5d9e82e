-- Laws of `specs/Theorems.antt`. Assumes nothing.
use Rattle.std.specs.Prelude.{◌≡◌, Bool, ℕ, ◌+◌, ◌-◌, ◌*◌, ◌≤◌, ◌<◌, take, drop, ltb, eqb}
use Rattle.std.proofs.Math.Path.{refl, ap, subst}
use Rattle.std.proofs.Common.{sym, ◌∙◌, add-zero, length-drop}
use Rattle.std.proofs.Math.Bool.{true, false}
use mathlib.Core.List.{List, [], ◌∷◌, ◌++◌}
use native.Mathlib.Omega.{arith}
use Rattle.std.proofs.Math.ListN.{length}
use Rattle.std.proofs.Math.Seq.{take-length}
use borrow.Author.Tests.{leb-true, ltb-true, lt-ltb, le-ltb, eq-eqb, eqb-true, not-false}
use Rattle.octets.specs.Logic.{choose, both, either, both_left, both_right}
use Rattle.octets.specs.Bytes.{legal, number_in, low_number, turned}
use Rattle.octets.specs.Field.{field}
use Rattle.octets.specs.Put.{put, cut, length_put, take_put, take_put_before}
use Rattle.refusal.specs.Answer.{gives, refuses, refuse, gives_past, gives_rest}
use Rattle.connect.specs.Handshake.{head, reply_length, aim, room, soundb, fresh, made, Progress, waits, complete, filled_to, reached, advanced}
use Rattle.connect.specs.Sound.{Sound, is_sound}
use Rattle.connect.specs.AimLaws.{aim_head, aim_held}
use Rattle.connect.specs.Feeding.{joined, state_of, Feeds, is_reply, Fed, moved, state_is, sound_filled, fed}
use Rattle.connect.proofs.FedLaws.{state_of_bytes, progress_one, setup_of_lem, within_fed, text_held}
use Rattle.connect.specs.Setup.{authenticate, authenticate_of, read_reply, setup, vendor_place, reason_place, text_at}
use Rattle.connect.specs.declared.handshake.Connect.{Connect}
use Rattle.connect.specs.Theorems.{Comes, goes_on, too_long}

-- ---- soundness

sound_fresh : (o : ℕ) (s : List ℕ) → room (length s) ≡ true → legal o ≡ true → Sound (fresh o) s
unfolding room
sound_fresh o s h k =
    let l : head ≤ length s = leb-true _ _ (both_left _ _ h) in
    record { least = l; most = leb-true _ _ (both_right _ _ h); order_known = k; target_given = sym (aim_head o s 0 (omega arith)); target_fits = l; not_passed = omega arith }

-- A handshake that `new` makes is sound beside its buffer,
pub new_sound : (o : ℕ) (s : List ℕ) (c : Connect) → made o (length s) ≡ gives c → Sound c s
unfolding made
new_sound o s c e =
    let f = gives_rest _ _ _ (sym e) in
    let i : fresh o ≡ c = let g = gives_rest _ _ _ f in cc in
    subst (λ (y : Connect). Sound y s) i (sound_fresh o s (not-false _ (gives_past _ _ _ (sym e))) (not-false _ (gives_past _ _ _ f)))

-- so is one that `advance` hands back,
pub advance_sound : (c : Connect) (s : List ℕ) (n : ℕ) (p : Progress) → advanced c s n ≡ gives p → Sound (state_of p) s
advance_sound c s n p e = subst (λ (y : Connect). Sound y s) (sym (state_is c s n p e)) (sound_filled c s n (moved c s n p e))

-- and one whose caller puts bytes into the lent part.
pub put_sound : (c : Connect) (s x : List ℕ) → Sound c s → length x ≤ c.target - c.filled → Sound c (put s c.filled x)
put_sound c s x h k =
    let b : c.filled + length x ≤ length s = omega (arith, h.target_fits, h.not_passed) in
    let l : length (put s c.filled x) ≡ length s = length_put s c.filled x b in
    let t : take c.filled (put s c.filled x) ≡ take c.filled s = take_put_before s c.filled x c.filled (omega arith) (omega arith) in
    let a : aim c.order s c.filled ≡ aim c.order (put s c.filled x) c.filled =
    sym (aim_held c.order s c.filled (omega arith)) ∙ ap (λ (y : List ℕ). aim c.order y c.filled) (sym t) ∙ aim_held c.order (put s c.filled x) c.filled (omega arith) in
    record { least = omega (arith, h.least); most = omega (arith, h.most); order_known = h.order_known; target_given = h.target_given ∙ a; target_fits = omega (arith, h.target_fits); not_passed = h.not_passed }

module _ (c : Connect) (s x : List ℕ) (h : Sound c s) (k : length x ≤ c.target - c.filled) where
  s' : List ℕ
  s' = put s c.filled x

  n : ℕ
  n = c.filled + length x

  t : ℕ
  t = aim c.order s' n

  q : Progress
  q = choose (eqb n t) (complete (filled_to c.order s' n)) (waits (filled_to c.order s' n))

  answer_is : advanced c s' (length x) ≡ refuse (ltb (length s') t) 2 (gives q)
  unfolding advanced reached refuse s' n t q
  answer_is = simp (is_sound c s' (put_sound c s x h k), le-ltb (c.target - c.filled) (length x) k)

  longer : length s' < t → length s < aim c.order (take c.filled s ++ x) (c.filled + length x)
  unfolding s' n t
  longer u =
      let b : c.filled + length x ≤ length s = omega (arith, h.target_fits, h.not_passed) in
      let l : length (put s c.filled x) ≡ length s = length_put s c.filled x b in
      let a : aim c.order (take c.filled s ++ x) (c.filled + length x) ≡ aim c.order (put s c.filled x) (c.filled + length x) =
      ap (λ (y : List ℕ). aim c.order y (c.filled + length x)) (sym (take_put s c.filled x b)) ∙ aim_held c.order (put s c.filled x) (c.filled + length x) (omega arith) in
      omega arith

  by_test : (b : Bool) → ltb (length s') t ≡ b → advanced c s' (length x) ≡ refuse b 2 (gives q) → Comes c s x (refuse b 2 (gives q))
  unfolding refuse s'
  by_test true p e = too_long (longer (ltb-true _ _ p))
  by_test false p e = goes_on (advance_sound c s' (length x) q e)

  pub comes : Comes c s x (advanced c (put s c.filled x) (length x))
  unfolding s'
  comes = subst (Comes c s x) (sym answer_is) (by_test (ltb (length s') t) refl answer_is)

-- ---- a complete handshake

-- By no bytes it is complete again; it takes no byte more.
pub stays : (c : Connect) (s : List ℕ) → Sound c s → c.filled ≡ c.target → advanced c s 0 ≡ gives (complete c)
unfolding advanced reached refuse choose
stays c s h e =
    let z : c.filled + 0 ≡ c.filled = add-zero c.filled in
    let t : aim c.order s c.filled ≡ c.target = sym h.target_given in
    let u : 0 ≤ c.target - c.filled = omega arith in
    simp (is_sound c s h, le-ltb (c.target - c.filled) 0 u, z, t, le-ltb (length s) c.target h.target_fits, eq-eqb c.filled c.target e)

pub takes_no_more : (c : Connect) (s : List ℕ) (n : ℕ) → Sound c s → c.filled ≡ c.target → 0 < n → advanced c s n ≡ refuses 7
unfolding advanced refuse
takes_no_more c s n h e k =
    let u : c.target - c.filled < n = omega arith in
    simp (is_sound c s h, lt-ltb (c.target - c.filled) n u)

-- ---- a reply in pieces

-- Pieces put into the lent part one after the other, from a fresh handshake and with no refusal: the bytes filled are the pieces in a row, and the last answer is complete exactly when these are one whole reply.
pub stream : (o : ℕ) {p : Progress} {s s' : List ℕ} {xs : List (List ℕ)} → Sound (fresh o) s → Feeds (waits (fresh o)) s xs p s' → Fed o (joined xs) p s'
unfolding is_reply both
stream o h f = fed o [] (record { sound = h; order_is = refl; filled_is = refl; complete_when = refl }) f

-- So pieces do not matter: the same bytes in other pieces and in another buffer end in the same answer.
pub any_pieces : (o : ℕ) {p q : Progress} {s s' u u' : List ℕ} {xs ys : List (List ℕ)} → Sound (fresh o) s → Sound (fresh o) u
    → Feeds (waits (fresh o)) s xs p s' → Feeds (waits (fresh o)) u ys q u' → joined xs ≡ joined ys → p ≡ q
any_pieces o {p} {q} {s' = s'} {u' = u'} {xs = xs} {ys = ys} h k f g e =
    let a = stream o h f in
    let b = stream o k g in
    progress_one p q
    (state_of_bytes o (joined xs) p s' a ∙ ap (λ (y : List ℕ). filled_to o y (length y)) e ∙ sym (state_of_bytes o (joined ys) q u' b))
    (a.complete_when ∙ ap (is_reply o) e ∙ sym b.complete_when)

-- ---- what `setup` says

-- `setup` gives 15 until the bytes fed are one whole reply, and then what these bytes say.
pub setup_fed : (o : ℕ) {p : Progress} {s s' : List ℕ} {xs : List (List ℕ)} → Sound (fresh o) s → Feeds (waits (fresh o)) s xs p s'
    → setup (state_of p) s' ≡ choose (is_reply o (joined xs)) (read_reply o (joined xs)) (refuses 15)
setup_fed o {p} {s' = s'} {xs = xs} h f = setup_of_lem o (joined xs) p s' (stream o h f)

-- The texts that `vendor` and `reason` show are those of the bytes fed.
pub texts_fed : (o : ℕ) {p : Progress} {s s' : List ℕ} {xs : List (List ℕ)} → Sound (fresh o) s → Feeds (waits (fresh o)) s xs p s'
    → (text_at (vendor_place (setup (state_of p) s')) s' ≡ text_at (vendor_place (setup (state_of p) s')) (joined xs))
    × (text_at (reason_place (setup (state_of p) s')) s' ≡ text_at (reason_place (setup (state_of p) s')) (joined xs))
texts_fed o {p} {s' = s'} {xs = xs} h f =
    let d = stream o h f in
    let w = within_fed o (joined xs) p s' d in
    (text_held o (joined xs) p s' d _ w.vendor_within, text_held o (joined xs) p s' d _ w.reason_within)

-- The reason of further authentication is all bytes after the eighth.
pub reason_all : (o : ℕ) (b : List ℕ) → is_reply o b ≡ true → text_at (reason_place (gives (authenticate (authenticate_of o b)))) b ≡ drop head b
unfolding is_reply authenticate_of reply_length cut
reason_all o b h =
    let l : length b ≡ head + 4 * field o 6 2 b = eqb-true _ _ (both_right _ _ h) in
    let k : length (drop head b) ≡ 4 * field o 6 2 b = omega (arith, length-drop head b) in
    ap (λ (n : ℕ). take n (drop head b)) (sym k) ∙ take-length (drop head b)

-- ---- 01, Refusal numbers, the order of refusals: where two apply, the first of the order is given

-- eight bytes of a reply that begin with a status and end in a length, least significant byte first
abbrev reply : ℕ → ℕ → List ℕ
reply status units = status ∷ 0 ∷ 0 ∷ 0 ∷ 0 ∷ 0 ∷ units ∷ 0 ∷ []

-- "advance 9, 7, 2"; "setup reading 9, 15, 14"; "elsewhere 9, then by number"
pub handshake_order : (made 0 7 ≡ refuses 9) × (made 0 8 ≡ refuses 13) × (advanced (fresh 0) (reply 7 1) 9 ≡ refuses 9) × (advanced (fresh 108) (reply 7 1) 9 ≡ refuses 7)
    × (advanced (fresh 108) (reply 7 1) 8 ≡ refuses 2) × (setup (fresh 0) (reply 7 0) ≡ refuses 9) × (setup (fresh 108) (reply 7 0) ≡ refuses 15)
unfolding made room soundb advanced reached aim reply_length setup legal field number_in low_number turned cut choose refuse both either
handshake_order = (refl, refl, refl, refl, refl, refl, refl)

-- "Setup buffer: 8 to 262,148"
pub buffer_ends : (made 108 8 ≡ gives (fresh 108)) × (made 66 262148 ≡ gives (fresh 66)) × (made 108 262149 ≡ refuses 9)
unfolding made room legal refuse both either
buffer_ends = (refl, refl, refl)
