-- A reply that is fed to a handshake in any pieces. Assumes nothing.
use Rattle.std.specs.Prelude.{◌≡◌, refl, Bool, true, false, List, [], ◌∷◌, ◌++◌, ℕ, ◌+◌, ◌-◌, ◌≤◌, ◌<◌, length, take, ltb, leb, eqb}
use Rattle.std.proofs.Common.{sym, ap, ◌∙◌, subst, append_assoc, append-nil, arith, length-take-le}
use borrow.Author.Tests.{ltb-true, ltb-false, le-leb, lt-leb, ne_eqb, not-false}
use Rattle.octets.specs.Logic.{choose, both}
use Rattle.octets.specs.Put.{put, take_put}
use Rattle.refusal.specs.Answer.{gives, gives_past, gives_rest}
use Rattle.connect.specs.Handshake.{head, reply_length, aim, Progress, waits, complete, filled_to, reached, advanced}
use Rattle.connect.specs.Sound.{Sound, sound_is}
use Rattle.connect.specs.AimLaws.{aim_head, aim_reply, aim_grows, reply_held}
use Rattle.connect.specs.declared.handshake.Connect.{Connect}

-- pieces in a row
abbrev pub joined : List (List ℕ) → List ℕ
joined [] = []
joined (x ∷ xs) = x ++ joined xs

-- the handshake that an answer hands back, and whether it is complete
abbrev pub state_of : Progress → Connect
state_of (waits c) = c
state_of (complete c) = c

abbrev pub is_complete : Progress → Bool
is_complete (waits c) = false
is_complete (complete c) = true

-- pieces xs, each put where the handshake's part stands and then counted, with no refusal: from one answer to the last
pub data Feeds : Progress → List ℕ → List (List ℕ) → Progress → List ℕ → Type 0 where
  done : {p : Progress} {s : List ℕ} → Feeds p s [] p s
  more : {p q r : Progress} {s s₂ x : List ℕ} {xs : List (List ℕ)} → advanced (state_of p) (put s (state_of p).filled x) (length x) ≡ gives q
      → Feeds q (put s (state_of p).filled x) xs r s₂ → Feeds p s (x ∷ xs) r s₂

-- 01, Framing and handshake: the bytes are one whole reply, the first eight and those that its length counts
unfoldable pub is_reply : ℕ → List ℕ → Bool
is_reply o b = both (leb head (length b)) (eqb (length b) (reply_length o b))

-- a handshake that was fed the bytes b
pub record Fed (o : ℕ) (b : List ℕ) (p : Progress) (s : List ℕ) : Type 0 where
  pub sound : Sound (state_of p) s
  pub order_is : (state_of p).order ≡ o
  pub filled_is : take (state_of p).filled s ≡ b
  pub complete_when : is_complete p ≡ is_reply o b

-- ---- what an answer tells

-- what is known where n bytes were counted
pub record Moved (c : Connect) (s : List ℕ) (n : ℕ) : Type 0 where
  pub was : Sound c s
  pub within : n ≤ c.target - c.filled
  pub fits : aim c.order s (c.filled + n) ≤ length s

state_of_lem : (b : Bool) (c : Connect) → state_of (choose b (complete c) (waits c)) ≡ c
unfolding choose
state_of_lem true c = refl
state_of_lem false c = refl

complete_of : (b : Bool) (c : Connect) → is_complete (choose b (complete c) (waits c)) ≡ b
unfolding choose
complete_of true c = refl
complete_of false c = refl

module _ (c : Connect) (s : List ℕ) (n : ℕ) (p : Progress) (e : advanced c s n ≡ gives p) where
  pub moved : Moved c s n
  unfolding advanced reached
  moved =
      let f = gives_rest _ _ _ (sym e) in let g = gives_rest _ _ _ f in
      record { was = sound_is c s (not-false _ (gives_past _ _ _ (sym e))); within = ltb-false _ _ (gives_past _ _ _ f); fits = ltb-false _ _ (gives_past _ _ _ g) }

  progress : p ≡ choose (eqb (c.filled + n) (aim c.order s (c.filled + n))) (complete (filled_to c.order s (c.filled + n))) (waits (filled_to c.order s (c.filled + n)))
  unfolding advanced reached
  progress = let f = gives_rest _ _ _ (gives_rest _ _ _ (gives_rest _ _ _ (sym e))) in cc

  pub state_is : state_of p ≡ filled_to c.order s (c.filled + n)
  state_is = ap state_of progress ∙ state_of_lem _ _

  pub complete_is : is_complete p ≡ eqb (c.filled + n) (aim c.order s (c.filled + n))
  complete_is = ap is_complete progress ∙ complete_of _ _

-- ---- each state that is left is sound

pub sound_filled : (c : Connect) (s : List ℕ) (n : ℕ) → Moved c s n → Sound (filled_to c.order s (c.filled + n)) s
sound_filled c s n m =
    record {
      least = m.was.least;
      most = m.was.most;
      order_known = m.was.order_known;
      target_given = refl;
      target_fits = m.fits;
      not_passed = omega (arith, m.within, m.was.not_passed, m.was.target_given, aim_grows c.order s c.filled (c.filled + n) (omega arith));
    }

-- ---- complete with a whole reply, and only then

pub reply_when : (o : ℕ) (s : List ℕ) (n : ℕ) → n ≤ length s → is_reply o (take n s) ≡ eqb n (aim o s n)
unfolding is_reply both
reply_when o s n h = go (ltb n head) refl where
  l : length (take n s) ≡ n
  l = length-take-le n s h

  go : (b : Bool) → ltb n head ≡ b → both (leb head (length (take n s))) (eqb (length (take n s)) (reply_length o (take n s))) ≡ eqb n (aim o s n)
  go true e =
      let k : n < head = ltb-true _ _ e in
      let z : n ≡ head → ⊥ = λ q. omega arith in
      simp (l, lt-leb head n k, aim_head o s n k, ne_eqb n head z)
  go false e =
      let k : head ≤ n = ltb-false _ _ e in
      simp (l, le-leb head n k, reply_held o s n k h, aim_reply o s n k)

-- a piece more
pub fed_more : (o : ℕ) (b x : List ℕ) (p q : Progress) (s : List ℕ) → Fed o b p s → advanced (state_of p) (put s (state_of p).filled x) (length x) ≡ gives q
    → Fed o (b ++ x) q (put s (state_of p).filled x)
fed_more o b x p q s f e =
    let c : Connect = state_of p in
    let s' : List ℕ = put s c.filled x in
    let n : ℕ = c.filled + length x in
    let m : Moved c s' (length x) = moved c s' (length x) q e in
    let i : state_of q ≡ filled_to c.order s' n = state_is c s' (length x) q e in
    let d : Sound (filled_to c.order s' n) s' = sound_filled c s' (length x) m in
    let k : n ≤ length s' = omega (arith, d.not_passed, d.target_fits) in
    let t : take n s' ≡ b ++ x =
    take_put s c.filled x (omega (arith, f.sound.target_fits, f.sound.not_passed, m.within)) ∙ ap (λ (y : List ℕ). y ++ x) f.filled_is in
    record {
      sound = subst (λ (y : Connect). Sound y s') (sym i) d;
      order_is = ap (λ (y : Connect). y.order) i ∙ f.order_is;
      filled_is = ap (λ (y : Connect). take y.filled s') i ∙ t;
      complete_when =
          complete_is c s' (length x) q e ∙ sym (reply_when c.order s' n k) ∙ (λ j. is_reply (f.order_is j) (t j));
    }

pub fed : (o : ℕ) (b : List ℕ) {p r : Progress} {s s₂ : List ℕ} {xs : List (List ℕ)} → Fed o b p s → Feeds p s xs r s₂ → Fed o (b ++ joined xs) r s₂
fed o b {p} {s = s} f done = subst (λ (y : List ℕ). Fed o y p s) (sym (append-nil b)) f
fed o b {p} {r} {s} {s₂} f (more {q = q} {x = x} {xs = xs} e g) =
    subst (λ (y : List ℕ). Fed o y r s₂) (append_assoc b x (joined xs)) (fed o (b ++ x) (fed_more o b x p q s f e) g)
