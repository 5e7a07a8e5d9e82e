-- `savepoint_length` and `save`: each test and what it answers. Assumes nothing.
use Rattle.std.specs.Prelude.{◌≡◌, Bool, List, ℕ, ◌+◌, ◌≤◌, ◌<◌, ◌^◌, eqb}
use Rattle.std.proofs.Math.Path.{sym, ap}
use Rattle.std.proofs.Common.{◌∙◌, arith}
use Rattle.std.proofs.Math.Bool.{true, false, not}
use Rattle.std.proofs.Math.Decide.{ℕ_discrete}
use Rattle.std.proofs.Math.Dec.{ltb}
use Rattle.std.proofs.Math.ListN.{length}
use borrow.Author.Tests.{lt-ltb, le-ltb, eq-eqb, ne_eqb, not-true, not-false}
use Rattle.octets.specs.Logic.{both}
use Rattle.octets.specs.Put.{put}
use Rattle.refusal.specs.Answer.{Answer, gives, refuses, refuse, pass, gives_past, gives_rest, gives_same}
use Rattle.sequence.specs.Numbering.{last_number}
use Rattle.id_allocator.specs.Ids as Ids
use Rattle.packet_reader.specs.Reader as Reader
use Rattle.packet_reader.specs.declared.PacketReader.{PacketReader}
use Rattle.requests.specs.Theorems.{sized_is}
use Rattle.held.specs.Reading as Store
use Rattle.descriptors.specs.Room.{total, most_descriptors}
use Rattle.model.specs.Reading.{count}
use Rattle.model.specs.ReadingLaws.{inside_read}
use Rattle.model.specs.Sound as Connection
use Rattle.model.specs.declared.Connection.{Connection}
use Rattle.savepoint.specs.Saved.{encode}
use Rattle.savepoint.proofs.Theorems.{sound_is}
use Rattle.savepoint.specs.Calls.{Laid, saved_of, soundb, holds, length_of, bytes_of, count_of, output_of, Measures, Saves}
use Rattle.saving.specs.Lengths.{length_encode}
use Rattle.saving.specs.WritingFile.{Writable, writable}

-- What makes the sizes fit that are added up.
pub record Sizable (c : Connection) (p : PacketReader) : Type 0 where
  pub written_most : c.written ≤ last_number
  pub first_most : c.first ≤ c.written + 1
  pub order : c.window.start ≤ c.window.end
  pub short : 116 + (count c + Store.used c.window + p.filled) < 2 ^ 63

-- ---- whether it is sound

module _ (x : Laid) (a : Bool) (e : a ≡ Connection.soundb x.connection x.rooms) where
  pub bad_connection : not a ≡ true → false ≡ soundb x
  unfolding soundb both
  bad_connection h = rw (sym e, not-true a h)

  module _ (h : not a ≡ false) (b : Bool) (f : b ≡ Reader.soundb x.reader x.buffer) where
    pub bad_reader : not b ≡ true → false ≡ soundb x
    unfolding soundb both
    bad_reader k = rw (sym e, not-false a h, sym f, not-true b k)

    pub last_ids : not b ≡ false → (d : Bool) → d ≡ Ids.sound x.ids → d ≡ soundb x
    unfolding soundb both
    last_ids k d g = rw (sym e, not-false a h, sym f, not-false b k, g)

module _ (x : Laid) where
  module _ (h : soundb x ≡ true) where
    -- a sound client
    pub sizable : Sizable x.connection x.reader
    sizable =
        let S = sound_is x h in
        let C = S.connection in
        let H = Connection.ready x.connection x.rooms C in
        let W = H.held.readable in
        let Z = (sized_is x.connection.capacity x.rooms.requests).0 C.requests in
        let u : Store.used x.connection.window ≤ 16777216 = omega (arith, W.room, W.order, W.within) in
        let n : count x.connection ≤ 65536 = omega (arith, C.numbers.count_most, Z.most) in
        let f : x.reader.filled < 2 ^ 40 = omega (arith, S.reader.not_reached, S.reader.target_fits, S.reader.most) in
        record { written_most = C.numbers.written_most; first_most = C.numbers.first_most; order = W.order; short = omega (arith, u, n, f) }

    pub few : total x.connection.counts ≤ most_descriptors
    few = (Connection.ready x.connection x.rooms (sound_is x h).connection).slots.most

    -- and its test for descriptors
    held : ltb 0 (total x.connection.counts) ≡ holds x
    unfolding holds
    held = go (total x.connection.counts) ∙ ap (λ (n : ℕ). not (eqb n 0)) (sym (inside_read x.connection x.rooms (sound_is x h).connection))
      where
        go : (n : ℕ) → ltb 0 n ≡ not (eqb n 0)
        go n = elim (ℕ_discrete n 0) [ yes e ↦ le-ltb 0 n (omega arith) ∙ ap not (sym (eq-eqb n 0 e)) | no q ↦ lt-ltb 0 n (omega arith) ∙ ap not (sym (ne_eqb n 0 q)) ]

  -- ---- how long it is

  pub length_unsound : (b : Bool) → b ≡ soundb x → not b ≡ true → Measures x (refuses 9)
  unfolding length_of refuse
  length_unsound b e h = rw (sym e, not-true b h)

  module _ (b : Bool) (e : b ≡ soundb x) (h : not b ≡ false) where
    pub tested : soundb x ≡ true
    tested = sym e ∙ not-false b h

    pub length_held : (d : Bool) → d ≡ ltb 0 (total x.connection.counts) → d ≡ true → Measures x (refuses 18)
    unfolding length_of refuse
    length_held d f k = let w : holds x ≡ true = sym (held tested) ∙ sym f ∙ k in rw (tested, w)

    pub length_told : (d : Bool) → d ≡ ltb 0 (total x.connection.counts) → d ≡ false → (n : ℕ) → n ≡ 116 + (count x.connection + Store.used x.connection.window + x.reader.filled) → Measures x (gives n)
    unfolding length_of refuse
    length_told d f k n g =
        let w : holds x ≡ false = sym (held tested) ∙ sym f ∙ k in
        let l : n ≡ length (encode (saved_of x)) = g ∙ sym (length_encode x tested) in
        ap gives l ∙ rw (tested, w)

  -- ---- the bytes

  module _ (out : List ℕ) where
    pub save_refused : (n : ℕ) → refuses n ≡ length_of x → Saves x out (refuses n) out
    unfolding bytes_of pass count_of output_of
    save_refused n e = record {
      answers = ap (λ (a : Answer ℕ). count_of (pass a (λ k. refuse (ltb (length out) k) 8 (gives (encode (saved_of x)))))) e;
      writes = ap (λ (a : Answer ℕ). output_of (pass a (λ k. refuse (ltb (length out) k) 8 (gives (encode (saved_of x))))) out) e;
    }

    module _ (n : ℕ) (e : gives n ≡ length_of x) where
      bytes_are : refuse (ltb (length out) n) 8 (gives (encode (saved_of x))) ≡ bytes_of x (length out)
      unfolding bytes_of pass
      bytes_are = ap (λ (a : Answer ℕ). pass a (λ k. refuse (ltb (length out) k) 8 (gives (encode (saved_of x))))) e

      pub save_short : length out < n → Saves x out (refuses 8) out
      unfolding count_of output_of refuse
      save_short h =
          let b : refuses 8 ≡ bytes_of x (length out) = ap (λ (t : Bool). refuse t 8 (gives (encode (saved_of x)))) (sym (lt-ltb (length out) n h)) ∙ bytes_are in
          record { answers = ap count_of b; writes = ap (λ (a : Answer (List ℕ)). output_of a out) b }

      length_is : n ≡ length (encode (saved_of x))
      unfolding length_of
      length_is = gives_same (gives_rest _ _ _ (gives_rest _ _ _ e))

      pub save_ready : n ≤ length out → Writable x.connection x.rooms.requests x.rooms.store x.reader x.buffer out
      unfolding length_of
      save_ready h = writable x out (not-false _ (gives_past _ _ _ e)) (gives_past _ _ _ (gives_rest _ _ _ e)) (omega (arith, length_is))

      pub save_done : n ≤ length out → (out' : List ℕ) → out' ≡ put out 0 (encode (saved_of x)) → Saves x out (gives n) out'
      unfolding count_of output_of refuse
      save_done h out' w =
          let b : gives (encode (saved_of x)) ≡ bytes_of x (length out) = ap (λ (t : Bool). refuse t 8 (gives (encode (saved_of x)))) (sym (le-ltb (length out) n h)) ∙ bytes_are in
          record { answers = ap gives length_is ∙ ap count_of b; writes = w ∙ ap (λ (a : Answer (List ℕ)). output_of a out) b }
