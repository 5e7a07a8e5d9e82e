-- Laws of `specs/Server.antt`. Assumes nothing.
use Rattle.std.specs.Prelude.{Bool, ◌≡◌, refl, ◌⊎◌, ℕ, ◌≤◌, ◌<◌}
use Rattle.std.proofs.Math.Bool.{true, false}
use mathlib.Core.List.{List, [], ◌∷◌, ◌++◌, append_assoc}
use Rattle.std.proofs.Math.Path.{sym}
use Rattle.std.proofs.Common.{◌∙◌, inl, inr, ⊎_elim, arith}
use Rattle.octets.specs.Logic.{choose}
use Rattle.refusal.specs.Answer.{gives}
use Rattle.packet.specs.Packet.{code_of, unnumbered}
use Rattle.model.specs.Model.{Filing}
use Rattle.model.specs.Batch.{Each}
use Rattle.honest.specs.Run.{Entry, sent, took, note_took, WithReply, Heard, Wire, Known, Along, Honest}
use Rattle.honest.specs.Server.{Packet, carrying, packets_in, Rising, First, HonestServer}

-- ---- A log whose packets, and those that are left, are the server's

-- one that is taken in is the log's last, if it carries a number, and no more of those left
pub offered : {A : Type 0} (p : Packet) (rest : List Packet) (l : List Entry) (x : Filing × A) → packets_in (note_took p.true_number p.bytes (gives x) l) ++ carrying rest ≡ packets_in l ++ carrying (p ∷ rest)
unfolding note_took carrying packets_in choose
offered p rest l x = go (unnumbered (code_of p.bytes))
  where
    go : (b : Bool) → packets_in (choose b l (took p.true_number p.bytes x.0 ∷ l)) ++ carrying rest ≡ packets_in l ++ choose b (carrying rest) (p ∷ carrying rest)
    go true = refl
    go false = append_assoc (packets_in l) (p ∷ []) (carrying rest)

every_split : (P : Packet → Type 0) (xs ys : List Packet) → Each P (xs ++ ys) → Each P xs × Each P ys
every_split P [] ys e = (tt, e)
every_split P (x ∷ xs) ys e = let r = every_split P xs ys e.1 in ((e.0, r.0), r.1)

rising_at : (xs : List Packet) (p : Packet) (ys : List Packet) → Rising (xs ++ (p ∷ ys)) → Each (λ (x : Packet). x.true_number ≤ p.true_number) xs
rising_at [] p ys e = tt
rising_at (x ∷ xs) p ys e = ((every_split (λ y. x.true_number ≤ y.true_number) xs (p ∷ ys) e.0).1.0, rising_at xs p ys e.1)

-- q is the number of one of them
abbrev Has : ℕ → List Packet → Type 0
Has q [] = ⊥
Has q (p ∷ l) = (q ≡ p.true_number) ⊎ Has q l

first_at_lem : (q : ℕ) (xs : List Packet) (p : Packet) (ys : List Packet) → First q (xs ++ (p ∷ ys)) → q < p.true_number → Has q xs
first_at_lem q [] p ys (inl e) h = absurd (omega arith)
first_at_lem q [] p ys (inr e) h = absurd (omega (arith, e.0))
first_at_lem q (x ∷ xs) p ys (inl e) h = inl (sym e)
first_at_lem q (x ∷ xs) p ys (inr e) h = inr (first_at_lem q xs p ys e.1 h)

has_last : (q : ℕ) (xs : List Packet) (p : Packet) → Has q (xs ++ (p ∷ [])) → (q ≡ p.true_number) ⊎ Has q xs
has_last q [] p (inl e) = inl e
has_last q [] p (inr e) = absurd e
has_last q (x ∷ xs) p (inl e) = inr (inl e)
has_last q (x ∷ xs) p (inr e) = ⊎_elim inl (λ r. inr (inr r)) (has_last q xs p e)

has_heard : (q : ℕ) (l : List Entry) → Has q (packets_in l) → Heard l q
unfolding packets_in
has_heard q [] e = e
has_heard q (sent has-reply ∷ l) e = has_heard q l e
has_heard q (took t p f ∷ l) e = ⊎_elim inl (λ r. inr (has_heard q l r)) (has_last q (packets_in l) (record { true_number = t; bytes = p }) e)

heard_most : (n : ℕ) (l : List Entry) → Each (λ (x : Packet). x.true_number ≤ n) (packets_in l) → (u : ℕ) → Heard l u → u ≤ n
unfolding packets_in
heard_most n [] e u h = absurd h
heard_most n (sent has-reply ∷ l) e u h = heard_most n l e u h
heard_most n (took t p f ∷ l) e u (inl h) = omega (arith, (every_split (λ x. x.true_number ≤ n) (packets_in l) (record { true_number = t; bytes = p } ∷ []) e).1.0)
heard_most n (took t p f ∷ l) e u (inr h) = heard_most n l (every_split (λ x. x.true_number ≤ n) (packets_in l) (record { true_number = t; bytes = p } ∷ []) e).0 u h

-- of packets that are all or only some of the server's
module _ (o : ℕ) (packets : List Packet) (wire : Each (λ (p : Packet). Wire o p.true_number p.bytes) packets) (rising : Rising packets) where
  honest_log : (l : List Entry) (ys : List Packet) → packets_in l ++ ys ≡ packets → Along (λ before t p. Known before t) l → ((q : ℕ) → WithReply l q → First q packets) → Honest o l
  unfolding packets_in
  honest_log [] ys e k a = tt
  honest_log (sent true ∷ l) ys e k a = honest_log l ys e k (λ q r. a q (inr r))
  honest_log (sent false ∷ l) ys e k a = honest_log l ys e k a
  honest_log (took t p f ∷ l) ys e k a =
      let x : Packet = record { true_number = t; bytes = p } in
      let g : packets_in l ++ (x ∷ ys) ≡ packets = sym (append_assoc (packets_in l) (x ∷ []) ys) ∙ e in
      let w : Each (λ (y : Packet). Wire o y.true_number y.bytes) (packets_in l ++ (x ∷ ys)) = rw g wire in
      let u : Rising (packets_in l ++ (x ∷ ys)) = rw g rising in (
        record {
          wire = (every_split (λ y. Wire o y.true_number y.bytes) (packets_in l) (x ∷ ys) w).1.0;
          rises = heard_most t l (rising_at (packets_in l) x ys u);
          known = k.0;
          answered = λ q r less. has_heard q l (first_at_lem q (packets_in l) x ys (rw g (a q r)) less);
        },
        honest_log l (x ∷ ys) g k.1 a,
      )

-- HONEST: such a log is, where the server is.
pub log_honest : (o : ℕ) (all rest : List Packet) (l : List Entry) → packets_in l ++ carrying rest ≡ carrying all → HonestServer o all l → Honest o l
log_honest o all rest l e h = honest_log o (carrying all) h.wire h.rising l (carrying rest) e h.known h.answered
