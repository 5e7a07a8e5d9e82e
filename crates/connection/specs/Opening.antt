-- A fresh connection is sound and is read as the model's. Assumes nothing.
use Rattle.std.proofs.Math.Path.{◌≡◌, refl, ap, subst}
use Rattle.std.proofs.Common.{sym, ◌∙◌}
use Rattle.std.specs.Prelude.{Bool, not, ℕ, ◌≤◌}
use Rattle.std.proofs.Math.Bool.{true, false}
use mathlib.Core.List.{[], map}
use native.Mathlib.Omega.{arith}
use Rattle.std.proofs.Math.ListN.{length}
use borrow.Author.Tests.{leb-true, eqb-true, eq-eqb, ne_eqb, not-false}
use Rattle.octets.specs.Logic.{both_left, both_right}
use Rattle.octets.specs.Bytes.{legal}
use Rattle.refusal.specs.Answer.{Answer, gives, refuses, refuse, pass, gives_past, gives_rest, refuse_under, gives_same, pass_refuse}
use Rattle.requests.specs.Room.{capacity, requests_most}
use Rattle.requests.specs.Theorems.{outstanding_none, legals_none, sized_is}
use Rattle.held.specs.Reading as Store
use Rattle.held.specs.Theorems as Held
use Rattle.held.specs.Soundness.{Holds}
use Rattle.held.specs.Head.{most_store}
use Rattle.descriptors.specs.Room as Slots
use Rattle.descriptors.specs.Theorems as Fds
use Rattle.descriptors.specs.Room.{most_descriptors}
use Rattle.model.specs.Client.{Client}
use Rattle.model.specs.Model.{least_store, roomy, fresh, new}
use Rattle.model.specs.Reading.{Rooms, reads, with_descriptors, event_of, slots_of}
use Rattle.model.specs.Promise.{Done, answer_of, rooms_of, model_of, exact_refused, exact_given, model_refuse, same}
use Rattle.model.specs.Sound.{Sound}
use Rattle.model.specs.declared.Connection.{Connection}
use Rattle.connection.specs.Calls.{fresh_state, open_exact, opened, Opens}

module _ (o : ℕ) (r : Rooms) (f : length r.slots ≡ most_descriptors) (g : roomy (capacity r.requests) (length r.store) ≡ true) where
  most : length r.store ≤ most_store
  unfolding roomy
  most = leb-true _ _ (both_right _ _ (both_right _ _ g))

  empty : Holds 0 (record { start = 0; end = 0 }) r.store []
  empty = Held.sound_empty 0 (record { start = 0; end = 0 }) r.store most refl (omega arith)

  none : Slots.Lists (slots_of (fresh_state o (capacity r.requests) (length r.store)) r) [] [] []
  none = Fds.none_lists r.slots

  -- it is read as the model's
  pub fresh_read : reads (fresh_state o (capacity r.requests) (length r.store)) r ≡ fresh o (capacity r.requests) (length r.store)
  unfolding reads Store.only with_descriptors
  fresh_read = λ k. record {
    order = o;
    most_requests = capacity r.requests;
    most_bytes = length r.store;
    numbers = record { written = 0; expected = 0; read = 0 };
    outstanding = outstanding_none r.requests 1 k;
    replies = with_descriptors (Store.only 0 (empty.reads k)) (none.holding_is k);
    events = map event_of (Store.only 1 (empty.reads k));
    waiting = none.waiting_is k;
    closing = none.closing_is k;
  }

  -- and sound, in one of the two orders
  pub fresh_sound : legal o ≡ true → Sound (fresh_state o (capacity r.requests) (length r.store)) r
  unfolding roomy Store.only Store.fds_in
  fresh_sound h =
      let a : 1 ≤ capacity r.requests = leb-true _ _ (both_left _ _ (both_left _ _ g)) in
      let b : capacity r.requests ≤ requests_most = leb-true _ _ (both_right _ _ (both_left _ _ g)) in
      let l : least_store ≤ length r.store = leb-true _ _ (both_left _ _ (both_right _ _ g)) in
      record {
        order = h;
        requests = (sized_is (capacity r.requests) r.requests).1 (record { least = a; most = b; holds = refl });
        store = refl;
        numbers = record {
          store_least = l;
          store_most = most;
          written_most = omega arith;
          expected_most = omega arith;
          read_most = omega arith;
          first_least = omega arith;
          first_most = omega arith;
          count_most = omega arith;
        };
        legal_bytes = legals_none r.requests 1;
        slots = (Fds.sound_is (slots_of (fresh_state o (capacity r.requests) (length r.store)) r)).1 (record { long = f; most = omega arith });
        held = (Held.sound_exactly 0 (record { start = 0; end = 0 }) r.store).1 empty.sound;
        descriptors = ap (λ hs. Store.fds_in (Store.only 0 hs)) empty.reads;
      }

-- `new` is the model's.
pub open_model : (o : ℕ) (r : Rooms) → model_of (open_exact o r) ≡ opened o r
unfolding open_exact opened model_of new pass
open_model o r =
    model_refuse _ 9 _
    ∙ refuse_under _ 9
    (λ f.
    model_refuse _ 9 _
    ∙ refuse_under _ 9
    (λ g. model_refuse _ 13 _ ∙ ap (λ (x : Client). refuse (not (legal o)) 13 (gives (tt, x))) (fresh_read o r (eqb-true _ _ (not-false _ f)) (not-false _ g)) ∙ sym (pass_refuse (not (legal o)) 13 (gives (fresh o (capacity r.requests) (length r.store))) (λ c. gives (tt, c))))
    ∙ sym (pass_refuse (not (roomy (capacity r.requests) (length r.store))) 9 (refuse (not (legal o)) 13 (gives (fresh o (capacity r.requests) (length r.store)))) (λ c. gives (tt, c))))

-- The state that it leaves is sound.
pub open_sound : (o : ℕ) (r : Rooms) (d : Done Unit) → gives d ≡ open_exact o r → Sound d.state d.left
unfolding open_exact
open_sound o r d e =
    let e₁ = gives_rest _ _ _ e in let e₂ = gives_rest _ _ _ e₁ in
    subst (λ (x : Done Unit). Sound x.state x.left) (gives_same (sym (gives_rest _ _ _ e₂)))
    (fresh_sound o r (eqb-true _ _ (not-false _ (gives_past _ _ _ e))) (not-false _ (gives_past _ _ _ e₁)) (not-false _ (gives_past _ _ _ e₂)))

module _ (o : ℕ) (r : Rooms) (c : Connection) (h : Opens o r (gives (tt, c))) where
  opens_exact : gives (record { value = tt; state = c; left = r }) ≡ open_exact o r
  unfolding answer_of rooms_of
  opens_exact = by (open_exact o r) h.exact.answers h.exact.leaves
    where
      by : (x : Answer (Done Unit)) → gives (tt, c) ≡ answer_of same x → r ≡ rooms_of x r → gives (record { value = tt; state = c; left = r }) ≡ x
      by (gives d) q l = λ k. gives (record { value = tt; state = (gives_same q k).1; left = l k })
      by (refuses n) q l = absurd (let z : ◌≡◌ {A = ℕ} 0 1 = cc in omega arith)

  -- A state that it hands back is sound,
  pub opens_sound : Sound c r
  opens_sound = open_sound o r _ opens_exact

  -- and is read as the model's fresh one.
  pub opens_fresh : reads c r ≡ fresh o (capacity r.requests) (length r.store)
  unfolding open_exact
  opens_fresh =
      let e₁ = gives_rest _ _ _ opens_exact in let e₂ = gives_rest _ _ _ e₁ in
      ap (λ (x : Done Unit). reads x.state r) (gives_same (gives_rest _ _ _ e₂)) ∙ fresh_read o r (eqb-true _ _ (not-false _ (gives_past _ _ _ opens_exact))) (not-false _ (gives_past _ _ _ e₁))

-- how it comes out
module _ (o : ℕ) (r : Rooms) where
  pub opens_slots : (length r.slots ≡ most_descriptors → ⊥) → Opens o r (refuses 9)
  unfolding open_exact refuse
  opens_slots h = record { exact = exact_refused same _ r 9 (simp (ne_eqb _ _ h)); model = open_model o r }

  module _ (f : length r.slots ≡ most_descriptors) {k : ℕ} (e : k ≡ capacity r.requests) where
    roomy_at : (b : Bool) → roomy k (length r.store) ≡ b → roomy (capacity r.requests) (length r.store) ≡ b
    roomy_at b h = ap (λ (n : ℕ). roomy n (length r.store)) (sym e) ∙ h

    pub opens_rooms : roomy k (length r.store) ≡ false → Opens o r (refuses 9)
    unfolding open_exact refuse
    opens_rooms h = record { exact = exact_refused same _ r 9 (simp (eq-eqb _ _ f, roomy_at false h)); model = open_model o r }

    module _ (g : roomy k (length r.store) ≡ true) where
      pub opens_order : legal o ≡ false → Opens o r (refuses 13)
      unfolding open_exact refuse
      opens_order h = record { exact = exact_refused same _ r 13 (simp (eq-eqb _ _ f, roomy_at true g, h)); model = open_model o r }

      pub opens_done : legal o ≡ true → (c : Connection) → c ≡ fresh_state o k (length r.store) → Opens o r (gives (tt, c))
      unfolding open_exact refuse
      opens_done h c q =
          subst (λ (x : Connection). Opens o r (gives (tt, x))) (sym (q ∙ ap (λ (n : ℕ). fresh_state o n (length r.store)) e))
          (record {
            exact = exact_given same _ r (record { value = tt; state = fresh_state o (capacity r.requests) (length r.store); left = r }) (simp (eq-eqb _ _ f, roomy_at true g, h));
            model = open_model o r;
          })
