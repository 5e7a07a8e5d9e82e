-- Laws of `specs/Placed.antt`. Assumes nothing.
use Rattle.std.specs.Prelude.{◌≡◌, true, List, [], ◌∷◌, ◌++◌, map, ℕ, suc, ◌+◌, ◌-◌, ◌≤◌, length, take}
use Rattle.std.proofs.Math.Path.{refl}
use Rattle.std.proofs.Common.{sym, ap, ◌∙◌, subst, append_assoc, append-nil, arith, length-append, length-take-le}
use Rattle.octets.specs.Put.{put, cut, cut_put, length_put}
use Rattle.packet_reader.specs.Frame.{aim}
use Rattle.packet_reader.specs.CutLaws.{aim_held}
use Rattle.packet_reader.specs.Sound as Reader
use Rattle.packet_reader.specs.declared.PacketReader.{PacketReader}
use Rattle.requests.specs.Room as Requests
use Rattle.requests.specs.Room.{put_request, outstanding, legals, capacity}
use Rattle.requests.specs.Theorems.{outstanding_none, outstanding_send, legals_none, legals_send, legals_exactly, capacity_put}
use Rattle.requests.specs.declared.Request.{Request}
use Rattle.held.specs.Head as Head
use Rattle.held.specs.Reading as Store
use Rattle.held.specs.Rows.{length_flat, costs_append}
use Rattle.descriptors.specs.Room.{counted}
use Rattle.model.specs.Client.{Held, Client, first, used, costs, descriptors_of, inside}
use Rattle.model.specs.Reading.{Rooms, reads}
use Rattle.model.specs.Sound.{Sound}
use Rattle.model.specs.Encoding.{InRange, reply_row, event_row, Mixed, none, a_reply_lem, an_event_lem, Encodes}
use Rattle.model.proofs.EncodingLaws.{encoded_sound, encoded_read}
use Rattle.savepoint.specs.Saved.{Partial, target, row_of}
use Rattle.savepoint.proofs.Items.{empty}
use Rattle.savepoint.specs.Ranges.{PartialFits}
use Rattle.savepoint.specs.Calls.{put_all, rows_of, connection_of, rooms_of, partial_of, reader_of}
use Rattle.savepoint.specs.Placed.{Fitting}

-- ---- requests, one under each number

capacity_all : (room : List ℕ) (n : ℕ) (rs : List Request) → capacity (put_all room n rs) ≡ capacity room
unfolding put_all
capacity_all room n [] = refl
capacity_all room n (r ∷ rs) = capacity_all (put_request room n r) (n + 1) rs ∙ capacity_put room n r

-- behind those that the room encodes already
all_put : (room : List ℕ) (from count : ℕ) (done rs : List Request) → count + length rs ≤ capacity room → legals room from count ≡ true → outstanding room from count ≡ done
    → (legals (put_all room (from + count) rs) from (count + length rs) ≡ true) × (outstanding (put_all room (from + count) rs) from (count + length rs) ≡ done ++ rs)
unfolding put_all
all_put room from count done [] h l e =
    let z : count + 0 ≡ count = omega arith in
    (ap (λ (n : ℕ). legals room from n) z ∙ l, ap (λ (n : ℕ). outstanding room from n) z ∙ e ∙ sym (append-nil done))
all_put room from count done (r ∷ rs) h l e =
    let room' : List ℕ = put_request room (from + count) r in
    let c : capacity room' ≡ capacity room = capacity_put room (from + count) r in
    let k = all_put room' from (count + 1) (done ++ (r ∷ [])) rs (omega (arith, c)) (legals_send room from count l r (omega arith)) (outstanding_send room from count r (omega arith) ∙ ap (λ (x : List Request). x ++ (r ∷ [])) e) in
    let a : from + (count + 1) ≡ from + count + 1 = omega arith in
    let b : count + 1 + length rs ≡ count + suc (length rs) = omega arith in
    ((λ i. legals (put_all room' (sym a i) rs) from (sym b i)) ∙ k.0, (λ i. outstanding (put_all room' (sym a i) rs) from (sym b i)) ∙ k.1 ∙ append_assoc done (r ∷ []) rs)

-- ---- held packets without descriptors, as records

bare_rows : (l : List Held) → length (descriptors_of l) ≡ 0 → map (row_of Head.reply) l ≡ map reply_row l
unfolding descriptors_of
bare_rows [] e = refl
bare_rows (h ∷ l) e =
    let k = length-append h.descriptors (descriptors_of l) in
    let z : 0 ≡ length h.descriptors = omega arith in
    λ i. Head.held h.number (z i) Head.reply h.packet ∷ bare_rows l (omega arith) i

mix_events : (es : List Held) → Mixed (map event_row es) [] es
mix_events [] = none
mix_events (h ∷ es) = an_event_lem h (mix_events es)

mix : (rs es : List Held) → Mixed (map reply_row rs ++ map event_row es) rs es
mix [] es = mix_events es
mix (h ∷ rs) es = a_reply_lem h (mix rs es)

pub costs_rows : (kind : ℕ) (l : List Held) → Store.costs (map (row_of kind) l) ≡ costs l
unfolding costs Store.costs
costs_rows kind [] = refl
costs_rows kind (h ∷ l) = omega (arith, costs_rows kind l)

-- the bytes of the records are as many as are used
pub rows_long : (m : Client) → length (Store.flat (rows_of m)) ≡ used m
rows_long m =
    length_flat (rows_of m)
    ∙ costs_append (map (row_of Head.reply) m.replies) (map (row_of Head.event) m.events)
    ∙ (λ i. costs_rows Head.reply m.replies i + costs_rows Head.event m.events i)

module _ (m : Client) (I : InRange m) (z : inside m ≡ 0) (r : Rooms) (F : Fitting m r) where
  placed_encodes : Encodes m (connection_of m) (rooms_of m r)
  placed_encodes =
      let q = all_put r.requests (first m) 0 [] m.outstanding (omega (arith, F.requests, I.run_most)) (legals_none r.requests (first m)) (outstanding_none r.requests (first m)) in
      let f : first m + 0 ≡ first m = omega arith in
      let room : List ℕ = put_all r.requests (first m) m.outstanding in
      let n : 0 + length m.outstanding ≡ length m.outstanding = omega arith in
      let l : legals room (first m) (length m.outstanding) ≡ true = (λ i. legals (put_all r.requests (sym f i) m.outstanding) (first m) (sym n i)) ∙ q.0 in
      let o : outstanding room (first m) (length m.outstanding) ≡ m.outstanding = (λ i. outstanding (put_all r.requests (sym f i) m.outstanding) (first m) (sym n i)) ∙ q.1 in
      let d : 0 + length (Store.flat (rows_of m)) ≤ length r.store = omega (arith, rows_long m, F.store, I.used_most) in
      let a : length (descriptors_of m.replies) ≡ 0 = omega arith in
      let b : length m.closing ≡ 0 = omega arith in
      let c : length m.waiting ≡ 0 = omega arith in
      record {
        order = refl;
        capacity = refl;
        room = refl;
        written = refl;
        expected = refl;
        read = refl;
        first_is = refl;
        requests_long = capacity_all r.requests (first m) m.outstanding ∙ F.requests;
        store_long = length_put r.store 0 (Store.flat (rows_of m)) d ∙ F.store;
        slots_long = F.slots;
        requests = subst (Requests.Encodes room (first m)) o ((legals_exactly room (first m) (length m.outstanding)).0 l);
        rows = rows_of m;
        mixed = subst (λ (x : List Head.Record). Mixed (x ++ map event_row m.events) m.replies m.events) (sym (bare_rows m.replies a)) (mix m.replies m.events);
        window_order = omega arith;
        window_within = omega (arith, length_put r.store 0 (Store.flat (rows_of m)) d, d, rows_long m);
        store = cut_put r.store 0 (Store.flat (rows_of m)) (used m - 0) (omega (arith, rows_long m)) (omega (arith, d, rows_long m));
        counts = λ i. counted (sym b i) (sym a i) (sym c i);
        rest = r.slots;
        slots = λ i. empty m.closing b i ++ (empty (descriptors_of m.replies) a i ++ (empty m.waiting c i ++ r.slots));
      }

  pub connection_sound : Sound (connection_of m) (rooms_of m r)
  connection_sound = encoded_sound m (connection_of m) (rooms_of m r) placed_encodes I

  pub connection_read : reads (connection_of m) (rooms_of m r) ≡ m
  connection_read = encoded_read m (connection_of m) (rooms_of m r) placed_encodes I

-- ---- the reader

pub partial_saved : (r : PacketReader) (s : List ℕ) → Reader.Sound r s → PartialFits (partial_of r s)
partial_saved r s S =
    let l : length (take r.filled s) ≡ r.filled = length-take-le r.filled s (omega (arith, S.not_reached, S.target_fits)) in
    let t : target (partial_of r s) ≡ r.target = ap (aim r.order (take r.filled s)) l ∙ aim_held r.order s r.filled (omega (arith, S.not_reached, S.target_fits)) ∙ sym S.target_given in
    record { least = S.least; most = S.most; order = S.order_known; fits = omega (arith, t, S.target_fits); waits = omega (arith, t, l, S.not_reached) }

module _ (p : Partial) (f : PartialFits p) (s : List ℕ) (e : length s ≡ p.room) where
  filled_fits : 0 + length p.filled ≤ length s
  filled_fits = omega (arith, f.waits, f.fits)

  abbrev now : List ℕ
  now = put s 0 p.filled

  long : length now ≡ length s
  long = length_put s 0 p.filled filled_fits

  kept : take (length p.filled) now ≡ p.filled
  unfolding cut
  kept = cut_put s 0 p.filled (length p.filled) refl filled_fits

  pub reader_sound : Reader.Sound (reader_of p) now
  reader_sound =
      let t : target p ≡ aim p.order now (length p.filled) = ap (λ (x : List ℕ). aim p.order x (length p.filled)) (sym kept) ∙ aim_held p.order now (length p.filled) (omega (arith, long, filled_fits)) in
      record { least = omega (arith, long, f.least); most = omega (arith, long, f.most); order_known = f.order; target_given = t; target_fits = omega (arith, long, f.fits); not_reached = f.waits }

  pub reader_read : partial_of (reader_of p) now ≡ p
  reader_read = λ i. record { order = p.order; room = (long ∙ e) i; filled = kept i }
