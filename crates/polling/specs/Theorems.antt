-- The polls in the model's terms, and the states that they leave. Assumes nothing.
use Rattle.std.specs.Prelude.{◌≡◌, map, ℕ, ltb, Option, Some, None}
use Rattle.std.proofs.Math.Path.{sym, ap}
use Rattle.std.proofs.Common.{◌∙◌, subst}
use Rattle.octets.specs.Logic.{choose, either}
use Rattle.refusal.specs.Answer.{Answer, gives, refuse, gives_rest, gives_same}
use Rattle.held.specs.General.{choose_either}
use Rattle.held.specs.Reading as Store
use Rattle.held.specs.Find.{found_reply, found_event}
use Rattle.held.specs.Moves.{demoted}
use Rattle.held.specs.Lies.{Other, FindsReply, FindsEvent}
use Rattle.held.specs.Theorems as Held
use Rattle.descriptors.specs.Room as Slots
use Rattle.model.specs.Model as Model
use Rattle.model.specs.Model.{find, taken_by, poll_for_reply_or_error, checked_by, poll_check, replied_by, poll_for_reply, event_by, poll_for_event}
use Rattle.model.specs.Reading.{Rooms, rooms, slots_of, with_descriptors, event_of, reads}
use Rattle.model.specs.Promise.{Done, model_of, model_refuse}
use Rattle.model.specs.Sound.{Sound, ready}
use Rattle.model.specs.declared.Connection.{Connection}
use Rattle.model.specs.Moved.{moved_state}
use Rattle.polling.specs.Exact.{reply_at, closing, event_from, event_exact, taken_from, taken_exact, checked_from, checked_exact, error_at, replied_from, replied_exact}
use Rattle.polling.specs.Rows.{model_choose, find_none}
use Rattle.polling.specs.Left.{event_is, event_left, event_sound, found_read, taken_left, closed_left, turned_left, taken_sound, closed_sound, turned_sound, same_error, bytes_is, places_is}
use Rattle.held.specs.declared.Spot.{Spot}

module _ (c : Connection) (r : Rooms) (S : Sound c r) where
  -- ---- the oldest event

  module _ (bytes : ℕ) where
    event_by_lem : (x : Option Spot) → FindsEvent c.window r.store x → model_of (event_from c r bytes x) ≡ poll_for_event (reads c r) bytes
    unfolding model_of poll_for_event reads
    event_by_lem None F = sym (ap (λ l. event_by (reads c r) bytes (map event_of l)) F)
    event_by_lem (Some p) F =
        model_refuse (ltb bytes p.len) 8 _
        ∙ (λ k. refuse (ltb bytes (F.len k)) 8 (gives (Model.packet (event_is c r S p F k), event_left c r S p F k)))
        ∙ sym (ap (λ l. event_by (reads c r) bytes (map event_of l)) F.split)

    -- THE OLDEST EVENT is the model's,
    pub event_model : model_of (event_exact c r bytes) ≡ poll_for_event (reads c r) bytes
    unfolding event_exact
    event_model = event_by_lem (found_event c.window r.store) (Held.find_event_law c.window r.store)

    event_keeps : (x : Option Spot) → FindsEvent c.window r.store x → (d : Done Model.Taken) → gives d ≡ event_from c r bytes x → Sound d.state d.left
    event_keeps None F d e = subst (λ (y : Done Model.Taken). Sound y.state y.left) (gives_same (sym e)) S
    event_keeps (Some p) F d e = subst (λ (y : Done Model.Taken). Sound y.state y.left) (gives_same (sym (gives_rest _ _ _ e))) (event_sound c r S p F)

    -- and leaves a sound state.
    pub event_leaves : (d : Done Model.Taken) → gives d ≡ event_exact c r bytes → Sound d.state d.left
    unfolding event_exact
    event_leaves d e = event_keeps (found_event c.window r.store) (Held.find_event_law c.window r.store) d e

  -- ---- the oldest reply of a number

  module _ (n : ℕ) where
    abbrev found : Option Spot
    found = found_reply n c.window r.store

    found_is : FindsReply n c.window r.store found
    found_is = Held.find_reply_law n c.read c.window r.store (ready c r S).held

    none_read : Store.All (Other n) (Store.replies c.window r.store) → find n (with_descriptors (Store.replies c.window r.store) (Slots.holding (slots_of c r))) ≡ Model.nothing
    none_read F = find_none n (Store.replies c.window r.store) (Slots.holding (slots_of c r)) F

    module _ (bytes places : ℕ) where
      taken_by_lem : (x : Option Spot) → FindsReply n c.window r.store x → model_of (taken_from c r bytes places x) ≡ poll_for_reply_or_error (reads c r) n bytes places
      unfolding model_of poll_for_reply_or_error reads
      taken_by_lem None F = sym (ap (taken_by (reads c r) bytes places) (none_read F))
      taken_by_lem (Some p) F =
          model_refuse (either (ltb bytes p.len) (ltb places p.fds)) 8 _
          ∙ (λ k. refuse (either (ltb bytes (bytes_is c r S n p F k)) (ltb places (places_is c r S n p F k))) 8 (gives (Model.packet (reply_at c r p), taken_left c r S n p F k)))
          ∙ sym (ap (taken_by (reads c r) bytes places) (found_read c r S n p F))

      -- A REPLY OR ERROR with its descriptors is the model's,
      pub taken_model : model_of (taken_exact c r n bytes places) ≡ poll_for_reply_or_error (reads c r) n bytes places
      unfolding taken_exact
      taken_model = taken_by_lem found found_is

      taken_keeps : (x : Option Spot) → FindsReply n c.window r.store x → (d : Done Model.Taken) → gives d ≡ taken_from c r bytes places x → Sound d.state d.left
      taken_keeps None F d e = subst (λ (y : Done Model.Taken). Sound y.state y.left) (gives_same (sym e)) S
      taken_keeps (Some p) F d e = subst (λ (y : Done Model.Taken). Sound y.state y.left) (gives_same (sym (gives_rest _ _ _ e))) (taken_sound c r S n p F)

      -- and leaves a sound state.
      pub taken_leaves : (d : Done Model.Taken) → gives d ≡ taken_exact c r n bytes places → Sound d.state d.left
      unfolding taken_exact
      taken_leaves d e = taken_keeps found found_is d e

    module _ (bytes : ℕ) where
      checked_by_lem : (x : Option Spot) → FindsReply n c.window r.store x → model_of (checked_from c r n bytes x) ≡ poll_check (reads c r) n bytes
      unfolding model_of poll_check reads
      checked_by_lem None F = sym (ap (checked_by (reads c r) n bytes) (none_read F))
      checked_by_lem (Some p) F =
          model_refuse (ltb bytes p.len) 8 _
          ∙ (λ k. refuse (ltb bytes (bytes_is c r S n p F k)) 8 (gives (Model.reply (reply_at c r p), closed_left c r S n p F k)))
          ∙ sym (ap (checked_by (reads c r) n bytes) (found_read c r S n p F))

      -- A REPLY OR ERROR whose descriptors are closed is the model's,
      pub checked_model : model_of (checked_exact c r n bytes) ≡ poll_check (reads c r) n bytes
      unfolding checked_exact
      checked_model = checked_by_lem found found_is

      checked_keeps : (x : Option Spot) → FindsReply n c.window r.store x → (d : Done Model.PollReply) → gives d ≡ checked_from c r n bytes x → Sound d.state d.left
      checked_keeps None F d e = subst (λ (y : Done Model.PollReply). Sound y.state y.left) (gives_same (sym e)) S
      checked_keeps (Some p) F d e = subst (λ (y : Done Model.PollReply). Sound y.state y.left) (gives_same (sym (gives_rest _ _ _ e))) (closed_sound c r S n p F)

      -- and leaves a sound state.
      pub checked_leaves : (d : Done Model.PollReply) → gives d ≡ checked_exact c r n bytes → Sound d.state d.left
      unfolding checked_exact
      checked_leaves d e = checked_keeps found found_is d e

      replied_by_lem : (x : Option Spot) → FindsReply n c.window r.store x → model_of (replied_from c r bytes x) ≡ poll_for_reply (reads c r) n bytes
      unfolding model_of poll_for_reply reads
      replied_by_lem None F = sym (ap (replied_by (reads c r) bytes) (none_read F))
      replied_by_lem (Some p) F =
          model_choose (error_at r p) _ _
          ∙ ap (λ y. choose (error_at r p) (gives (Model.no_reply, reads (moved_state c c.window (closing c r p).counts) (rooms r.requests (demoted c.window r.store p) (closing c r p).slots))) y)
          (model_refuse (ltb bytes p.len) 8 _)
          ∙ (λ k. choose (same_error c r S n p F k) (gives (Model.no_reply, turned_left c r S n p F k))
          (refuse (ltb bytes (bytes_is c r S n p F k)) 8 (gives (Model.reply (reply_at c r p), closed_left c r S n p F k))))
          ∙ sym (ap (replied_by (reads c r) bytes) (found_read c r S n p F))

      -- A REPLY, with errors made events, is the model's,
      pub replied_model : model_of (replied_exact c r n bytes) ≡ poll_for_reply (reads c r) n bytes
      unfolding replied_exact
      replied_model = replied_by_lem found found_is

      replied_keeps : (x : Option Spot) → FindsReply n c.window r.store x → (d : Done Model.PollReply) → gives d ≡ replied_from c r bytes x → Sound d.state d.left
      replied_keeps None F d e = subst (λ (y : Done Model.PollReply). Sound y.state y.left) (gives_same (sym e)) S
      replied_keeps (Some p) F d e =
          choose_either (λ (y : Answer (Done Model.PollReply)). gives d ≡ y → Sound d.state d.left) (error_at r p) _ _
          (λ t e. subst (λ (y : Done Model.PollReply). Sound y.state y.left) (gives_same (sym e)) (turned_sound c r S n p F))
          (λ t e. subst (λ (y : Done Model.PollReply). Sound y.state y.left) (gives_same (sym (gives_rest _ _ _ e))) (closed_sound c r S n p F))
          e

      -- and leaves a sound state.
      pub replied_leaves : (d : Done Model.PollReply) → gives d ≡ replied_exact c r n bytes → Sound d.state d.left
      unfolding replied_exact
      replied_leaves d e = replied_keeps found found_is d e
