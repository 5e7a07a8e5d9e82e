-- Soundness of a handshake in the rules' words, and the same as its test. Assumes nothing.
use Rattle.std.specs.Prelude.{◌≡◌, refl, Bool, true, false, not, List, ℕ, ◌≤◌, leb, length}
use Rattle.std.proofs.Common.{sym, ◌∙◌, arith, leb-true, eqb-true, le-leb, eq-eqb}
use Rattle.std.proofs.lemmas.Bool.{not-false}
use Rattle.octets.specs.Logic.{choose, both_left, both_right, both_yes, both_on}
use Rattle.octets.specs.Bytes.{legal}
use Rattle.connect.specs.Handshake.{head, most_buffer, aim, room, soundb, unfilled}
use Rattle.connect.specs.declared.handshake.Connect.{Connect}
use Rattle.octets.specs.declared.Span.{Span}

-- 01, Rooms: what a sound handshake is
pub record Sound (c : Connect) (s : List ℕ) : Type 0 where
  pub least : head ≤ length s
  pub most : length s ≤ most_buffer
  pub order_known : legal c.order ≡ true
  pub target_given : c.target ≡ aim c.order s c.filled
  pub target_fits : c.target ≤ length s
  pub not_passed : c.filled ≤ c.target

-- The test holds exactly for sound handshakes.
pub sound_is : (c : Connect) (s : List ℕ) → soundb c s ≡ true → Sound c s
unfolding soundb room
sound_is c s h =
    let a = both_right _ _ h in let b = both_right _ _ a in let d = both_right _ _ b in
    record {
      least = leb-true _ _ (both_left _ _ (both_left _ _ h));
      most = leb-true _ _ (both_right _ _ (both_left _ _ h));
      order_known = both_left _ _ a;
      target_given = eqb-true _ _ (both_left _ _ b);
      target_fits = leb-true _ _ (both_left _ _ d);
      not_passed = leb-true _ _ (both_right _ _ d);
    }

pub is_sound : (c : Connect) (s : List ℕ) → Sound c s → soundb c s ≡ true
unfolding soundb room
is_sound c s h =
    both_yes _ _ (both_yes _ _ (le-leb head (length s) h.least) (le-leb (length s) most_buffer h.most))
    (both_yes _ _ h.order_known
    (both_yes _ _ (eq-eqb c.target _ h.target_given) (both_yes _ _ (le-leb c.target (length s) h.target_fits) (le-leb c.filled c.target h.not_passed))))

-- where all but the last holds, the last decides
pub sound_rest : (c : Connect) (s : List ℕ) → head ≤ length s → length s ≤ most_buffer → true ≡ legal c.order → c.target ≡ aim c.order s c.filled → c.target ≤ length s
    → leb c.filled c.target ≡ soundb c s
unfolding soundb room
sound_rest c s h k l e f =
    both_on (le-leb c.target (length s) f)
    ∙ both_on (eq-eqb c.target _ e)
    ∙ both_on (sym l)
    ∙ both_on (both_yes _ _ (le-leb head (length s) h) (le-leb (length s) most_buffer k))

-- what a call's test tells
pub sound_seen : (c : Connect) (s : List ℕ) (b : Bool) → b ≡ soundb c s → not b ≡ false → Sound c s
sound_seen c s b e h = sound_is c s (sym e ∙ not-false b h)

-- The unfilled part lies in the buffer.
pub record Within (p : Span) (s : List ℕ) : Type 0 where
  pub ordered : p.start ≤ p.end
  pub inside : p.end ≤ length s

pub unfilled_within : (c : Connect) (s : List ℕ) → Within (unfilled c s) s
unfolding unfilled choose
unfilled_within c s = go (soundb c s) refl
  where
    go : (b : Bool) → soundb c s ≡ b → Within (choose {A = Span} b (record { start = c.filled; end = c.target }) (record { start = 0; end = 0 })) s
    go true e = let h = sound_is c s e in record { ordered = h.not_passed; inside = h.target_fits }
    go false e = record { ordered = omega arith; inside = omega arith }

pub within_seen : (c : Connect) (s : List ℕ) (p : Span) → p ≡ unfilled c s → Within p s
within_seen c s p e = rw e (unfilled_within c s)
