-- Laws of the length of a reply. Assumes nothing.
use Rattle.std.specs.Prelude.{◌≡◌, refl, Bool, true, false, List, ◌++◌, ℕ, ◌+◌, ◌*◌, ◌≤◌, ◌<◌, length, take, drop, ltb}
use Rattle.std.proofs.Common.{sym, ap, ◌∙◌, arith, take-append-drop, length-take-le, ltb-true, ltb-false, lt-ltb, le-ltb}
use Rattle.octets.specs.Logic.{choose}
use Rattle.octets.specs.Bytes.{number_in}
use Rattle.octets.specs.Put.{cut_append}
use Rattle.octets.specs.Field.{field}
use Rattle.connect.specs.Handshake.{head, reply_length, aim}
use Rattle.connect.specs.Sound.{Sound}
use Rattle.connect.specs.declared.handshake.Connect.{Connect}

pub reply_least : (o : ℕ) (s : List ℕ) → head ≤ reply_length o s
unfolding reply_length
reply_least o s = omega arith

pub aim_head : (o : ℕ) (s : List ℕ) (n : ℕ) → n < head → aim o s n ≡ head
unfolding aim choose
aim_head o s n h = simp (lt-ltb _ _ h)

pub aim_reply : (o : ℕ) (s : List ℕ) (n : ℕ) → head ≤ n → aim o s n ≡ reply_length o s
unfolding aim choose
aim_reply o s n h = simp (le-ltb _ _ h)

-- a law that holds of the head and of the whole reply holds of a target
by_head : (P : ℕ → Type 0) (n : ℕ) → (n < head → P n) → (head ≤ n → P n) → P n
by_head P n f g = go (ltb n head) refl where
  go : (b : Bool) → ltb n head ≡ b → P n
  go true e = f (ltb-true _ _ e)
  go false e = g (ltb-false _ _ e)

pub aim_least : (o : ℕ) (s : List ℕ) (n : ℕ) → head ≤ aim o s n
aim_least o s n =
    by_head (λ (k : ℕ). head ≤ aim o s k) n (λ h. omega (arith, aim_head o s n h)) (λ h. omega (arith, aim_reply o s n h, reply_least o s))

-- a target is met, never passed
pub aim_grows : (o : ℕ) (s : List ℕ) (n m : ℕ) → n ≤ m → aim o s n ≤ aim o s m
aim_grows o s n m k =
    by_head (λ (i : ℕ). i ≤ m → aim o s i ≤ aim o s m) n (λ h l. omega (arith, aim_head o s n h, aim_least o s m)) (λ h l. omega (arith, aim_reply o s n h, aim_reply o s m (omega arith))) k

-- the first eight bytes decide
pub reply_append : (o : ℕ) (a u : List ℕ) → head ≤ length a → reply_length o (a ++ u) ≡ reply_length o a
unfolding reply_length field
reply_append o a u h = λ i. head + 4 * number_in o (cut_append 6 2 a u (omega arith) i)

-- so the target is that of the bytes held
pub reply_held : (o : ℕ) (s : List ℕ) (n : ℕ) → head ≤ n → n ≤ length s → reply_length o (take n s) ≡ reply_length o s
reply_held o s n h k =
    sym (reply_append o (take n s) (drop n s) (omega (arith, length-take-le n s k))) ∙ ap (λ (l : List ℕ). reply_length o l) (take-append-drop n s)

pub aim_held : (o : ℕ) (s : List ℕ) (n : ℕ) → n ≤ length s → aim o (take n s) n ≡ aim o s n
aim_held o s n k =
    by_head (λ (i : ℕ). i ≤ length s → aim o (take i s) i ≡ aim o s i) n
    (λ h l. aim_head o (take n s) n h ∙ sym (aim_head o s n h))
    (λ h l. aim_reply o (take n s) n h ∙ reply_held o s n h l ∙ sym (aim_reply o s n h))
    k

-- a complete handshake holds one reply
pub complete_reply : (c : Connect) (s : List ℕ) → Sound c s → c.filled ≡ c.target → reply_length c.order s ≡ c.target
complete_reply c s h e =
    sym (aim_reply c.order s c.filled (omega (arith, aim_least c.order s c.filled, h.target_given))) ∙ sym h.target_given

pub target_least : (c : Connect) (s : List ℕ) → Sound c s → head ≤ c.target
target_least c s h = omega (arith, aim_least c.order s c.filled, h.target_given)

pub reply_long : (c : Connect) (s : List ℕ) → Sound c s → head ≤ length (take c.target s)
reply_long c s h = omega (arith, length-take-le c.target s h.target_fits, target_least c s h)
