-- The whole file: what a sound client has in its rooms, written section by section, is its savepoint. Assumes nothing.
use Rattle.std.specs.Prelude.{◌≡◌, refl, Bool, true, false, List, [], ◌∷◌, ◌++◌, map, ℕ, ◌+◌, ◌≤◌, ◌<◌, ◌^◌, eqb}
use Rattle.std.proofs.Common.{sym, ap, ◌∙◌, subst, append_assoc, arith, length-take-le, eqb-true}
use lib.ListN.{length, take, length-append}
use Rattle.std.proofs.lemmas.Bool.{not-false}
use Rattle.octets.specs.Logic.{choose, both_left, both_right}
use Rattle.octets.specs.Bytes.{little_order, word, length_bytes_of}
use Rattle.octets.specs.Put.{put, put_more}
use Rattle.sequence.specs.Numbering.{last_number}
use Rattle.packet_reader.specs.Sound as Reader
use Rattle.packet_reader.specs.declared.PacketReader.{PacketReader}
use Rattle.id_allocator.specs.declared.IdAllocator.{IdAllocator}
use Rattle.requests.specs.Room.{capacity, outstanding}
use Rattle.requests.specs.Theorems.{length_outstanding, sized_is}
use Rattle.held.specs.Head as Head
use Rattle.held.specs.Head.{Record, Fits, most_fds, reply, event}
use Rattle.held.specs.Reading.{All, Readable, records, only, fds_in, flat, replies, events}
use Rattle.held.specs.Rows.{length_flat}
use Rattle.held.specs.Theorems as Held
use Rattle.held.specs.declared.Window.{Window}
use Rattle.descriptors.specs.Room as Slots
use Rattle.model.specs.Client as Model
use Rattle.model.specs.Reading.{rooms, count, held_with, with_descriptors, event_of, slots_of, reads}
use Rattle.model.specs.ReadingLaws.{inside_read}
use Rattle.model.specs.Sound as Connection
use Rattle.model.specs.declared.Connection.{Connection}
use Rattle.form.specs.Form.{number, byte, counted, writes}
use Rattle.savepoint.specs.Saved.{request, row_of, held, lay, encode}
use Rattle.savepoint.proofs.Items.{writes_flat}
use Rattle.savepoint.specs.Calls.{Laid, laid, saved_of, soundb, holds}
use Rattle.saving.specs.Lengths.{length_numbers, length_requests, length_bytes, length_encode}

-- the held packets of a kind as the file has them: their count, then the bytes of the store
abbrev pub section : ℕ → Window → List ℕ → List ℕ
section kind w s = word 4 (length (only kind (records w s))) ++ flat (only kind (records w s))

-- What the writer asks of connection, request room, store, reader and buffer, and of the length of the output.
pub record Writable (c : Connection) (q s : List ℕ) (p : PacketReader) (b out : List ℕ) : Type 0 where
  pub written_most : c.written ≤ last_number
  pub first_most : c.first ≤ c.written + 1
  pub some : 0 < capacity q
  pub few : count c < 2 ^ 32
  pub readable : Readable c.window s
  pub bare : fds_in (replies c.window s) ≡ 0
  pub filled : p.filled ≤ length b
  pub short : p.filled < 2 ^ 32
  pub room : 116 + (count c + (length (flat (replies c.window s)) + length (flat (events c.window s))) + p.filled) ≤ length out

-- THE PROMISE: the file stands at the output's start, whatever the slots are
abbrev pub Written : Connection → List ℕ → List ℕ → PacketReader → List ℕ → IdAllocator → List ℕ → List ℕ → Type 0
Written c q s p b a out out' = (f : List ℕ) → out' ≡ put out 0 (encode (saved_of (laid c (rooms q s f) p b a)))

-- ---- records without descriptors are the rows of what is read of them

Bare : ℕ → Record → Type 0
Bare kind h = (h.kind ≡ kind) × (h.fds ≡ 0)

row_same : (kind : ℕ) (h : Record) (x : List ℕ) → Bare kind h → row_of kind (held_with h x) ≡ h
unfolding Bare
row_same kind h x b = λ i. Head.held h.number (sym b.1 i) (sym b.0 i) h.packet

rows_with : (kind : ℕ) (l : List Record) (x : List ℕ) → All (Bare kind) l → map (row_of kind) (with_descriptors l x) ≡ l
unfolding with_descriptors All
rows_with kind [] x b = refl
rows_with kind (h ∷ l) x b = λ i. row_same kind h (take h.fds x) b.0 i ∷ rows_with kind l (lib.ListN.drop h.fds x) b.1 i

rows_events : (kind : ℕ) (l : List Record) → All (Bare kind) l → map (row_of kind) (map event_of l) ≡ l
unfolding All
rows_events kind [] b = refl
rows_events kind (h ∷ l) b = λ i. row_same kind h [] b.0 i ∷ rows_events kind l b.1 i

-- no reply has any where they have none in all, and an event never has
bare_replies : (hs : List Record) → fds_in (only reply hs) ≡ 0 → All (Bare reply) (only reply hs)
unfolding only fds_in All choose Bare
bare_replies [] e = tt
bare_replies (h ∷ hs) e = go (eqb h.kind reply) refl e (bare_replies hs)
  where
    go : (t : Bool) → eqb h.kind reply ≡ t → fds_in (choose t (h ∷ only reply hs) (only reply hs)) ≡ 0 → (fds_in (only reply hs) ≡ 0 → All (Bare reply) (only reply hs))
        → All (Bare reply) (choose t (h ∷ only reply hs) (only reply hs))
    go true k z more = ((eqb-true h.kind reply k, omega arith), more (omega arith))
    go false k z more = more z

none_of_event : (h : Record) → Fits h → h.kind ≡ event → h.fds ≡ 0
unfolding most_fds choose
none_of_event h f e = let z : h.fds ≤ most_fds event = subst (λ (k : ℕ). h.fds ≤ most_fds k) e f.count in omega arith

bare_events : (hs : List Record) → All Fits hs → All (Bare event) (only event hs)
unfolding only All choose Bare
bare_events [] f = tt
bare_events (h ∷ hs) f = go (eqb h.kind event) refl (bare_events hs f.1)
  where
    go : (t : Bool) → eqb h.kind event ≡ t → All (Bare event) (only event hs) → All (Bare event) (choose t (h ∷ only event hs) (only event hs))
    go true k more = let e = eqb-true h.kind event k in ((e, none_of_event h f.0 e), more)
    go false k more = more

-- so such a section is the records' own bytes
section_is : (kind : ℕ) (rs : List Record) (l : List Model.Held) → map (row_of kind) l ≡ rs → word 4 (length rs) ++ flat rs ≡ (counted 4 (held kind)).write l
section_is kind rs l e =
    let n : length rs ≡ length l = ap length (sym e) ∙ length_map l in
    let w : flat rs ≡ writes (held kind) l = ap flat (sym e) ∙ sym (writes_flat kind l) in
    λ i. word 4 (n i) ++ w i
  where
    length_map : (l : List Model.Held) → length (map (row_of kind) l) ≡ length l
    length_map [] = refl
    length_map (h ∷ l) = omega (arith, length_map l)

-- ---- one section behind another

on : (s s₁ s₂ : List ℕ) (to to' n : ℕ) (v w : List ℕ) → (s₁ ≡ put s 0 v) × (length v ≡ to) → (to' ≡ to + n) × (s₂ ≡ put s₁ to w) → length w ≡ n → to + n ≤ length s
    → (s₂ ≡ put s 0 (v ++ w)) × (length (v ++ w) ≡ to')
on s s₁ s₂ to to' n v w p q l h =
    (put_more s s₁ s₂ to v w p.1 (omega arith) p.0 q.1, omega (arith, length-append v w, p.1, q.0))

pub seven : (s s₁ s₂ s₃ s₄ s₅ s₆ s₇ v₁ v₂ v₃ v₄ v₅ v₆ v₇ : List ℕ) (t₁ t₂ t₃ t₄ t₅ t₆ t₇ n₃ n₄ n₅ n₆ : ℕ)
    → (t₁ ≡ 0 + 28) × (s₁ ≡ put s 0 v₁) → length v₁ ≡ 28
    → (t₂ ≡ t₁ + 44) × (s₂ ≡ put s₁ t₁ v₂) → length v₂ ≡ 44
    → (t₃ ≡ t₂ + (4 + n₃)) × (s₃ ≡ put s₂ t₂ v₃) → length v₃ ≡ 4 + n₃
    → (t₄ ≡ t₃ + (4 + n₄)) × (s₄ ≡ put s₃ t₃ v₄) → length v₄ ≡ 4 + n₄
    → (t₅ ≡ t₄ + (4 + n₅)) × (s₅ ≡ put s₄ t₄ v₅) → length v₅ ≡ 4 + n₅
    → (t₆ ≡ t₅ + (4 + n₆)) × (s₆ ≡ put s₅ t₅ v₆) → length v₆ ≡ 4 + n₆
    → (t₇ ≡ t₆ + 28) × (s₇ ≡ put s₆ t₆ v₇) → length v₇ ≡ 28
    → 116 + (n₃ + (n₄ + n₅) + n₆) ≤ length s → s₇ ≡ put s 0 (v₁ ++ (v₂ ++ (v₃ ++ (v₄ ++ (v₅ ++ (v₆ ++ v₇))))))
seven s s₁ s₂ s₃ s₄ s₅ s₆ s₇ v₁ v₂ v₃ v₄ v₅ v₆ v₇ t₁ t₂ t₃ t₄ t₅ t₆ t₇ n₃ n₄ n₅ n₆ p₁ l₁ p₂ l₂ p₃ l₃ p₄ l₄ p₅ l₅ p₆ l₆ p₇ l₇ h =
    let q₂ = on s s₁ s₂ t₁ t₂ 44 v₁ v₂ (p₁.1, omega (arith, p₁.0)) p₂ l₂ (omega (arith, p₁.0)) in
    let q₃ = on s s₂ s₃ t₂ t₃ _ _ v₃ q₂ p₃ l₃ (omega (arith, p₁.0, p₂.0)) in
    let q₄ = on s s₃ s₄ t₃ t₄ _ _ v₄ q₃ p₄ l₄ (omega (arith, p₁.0, p₂.0, p₃.0)) in
    let q₅ = on s s₄ s₅ t₄ t₅ _ _ v₅ q₄ p₅ l₅ (omega (arith, p₁.0, p₂.0, p₃.0, p₄.0)) in
    let q₆ = on s s₅ s₆ t₅ t₆ _ _ v₆ q₅ p₆ l₆ (omega (arith, p₁.0, p₂.0, p₃.0, p₄.0, p₅.0)) in
    let q₇ = on s s₆ s₇ t₆ t₇ _ _ v₇ q₆ p₇ l₇ (omega (arith, p₁.0, p₂.0, p₃.0, p₄.0, p₅.0, p₆.0)) in
    q₇.0 ∙ ap (put s 0) (simp append_assoc)

module _ (c : Connection) (q s : List ℕ) (p : PacketReader) (b : List ℕ) (a : IdAllocator) where
  abbrev v₁ : List ℕ
  v₁ = (counted 4 (number 8)).write (c.written ∷ c.expected ∷ c.read ∷ [])

  abbrev v₂ : List ℕ
  v₂ = (counted 4 (number 8)).write (c.order ∷ c.capacity ∷ c.room ∷ p.order ∷ length b ∷ [])

  abbrev v₃ : List ℕ
  v₃ = (counted 4 request).write (outstanding q c.first (count c))

  abbrev v₆ : List ℕ
  v₆ = (counted 4 byte).write (take p.filled b)

  abbrev v₇ : List ℕ
  v₇ = (counted 4 (number 8)).write (a.next ∷ a.last ∷ a.step ∷ [])

  -- the sections side by side are the file
  file_is : Readable c.window s → fds_in (replies c.window s) ≡ 0 → (f : List ℕ)
      → v₁ ++ (v₂ ++ (v₃ ++ (section reply c.window s ++ (section event c.window s ++ (v₆ ++ v₇))))) ≡ encode (saved_of (laid c (rooms q s f) p b a))
  unfolding encode lay reads
  file_is R z f =
      let m = reads c (rooms q s f) in
      let r = section_is reply (replies c.window s) m.replies (rows_with reply (replies c.window s) (Slots.holding (slots_of c (rooms q s f))) (bare_replies (records c.window s) z)) in
      let e = section_is event (events c.window s) m.events (rows_events event (events c.window s) (bare_events (records c.window s) R.fit)) in
      λ i. v₁ ++ (v₂ ++ (v₃ ++ (r i ++ (e i ++ (v₆ ++ v₇)))))

  -- WHAT THE CODE DOES
  pub file_put : (s₀ s₁ s₂ s₃ s₄ s₅ s₆ s₇ : List ℕ) (t₁ t₂ t₃ t₄ t₅ t₆ t₇ : ℕ) → Writable c q s p b s₀
      → (t₁ ≡ 0 + 28) × (s₁ ≡ put s₀ 0 v₁)
      → (t₂ ≡ t₁ + 44) × (s₂ ≡ put s₁ t₁ v₂)
      → (t₃ ≡ t₂ + (4 + count c)) × (s₃ ≡ put s₂ t₂ v₃)
      → (t₄ ≡ t₃ + (4 + length (flat (replies c.window s)))) × (s₄ ≡ put s₃ t₃ (section reply c.window s))
      → (t₅ ≡ t₄ + (4 + length (flat (events c.window s)))) × (s₅ ≡ put s₄ t₄ (section event c.window s))
      → (t₆ ≡ t₅ + (4 + p.filled)) × (s₆ ≡ put s₅ t₅ v₆)
      → (t₇ ≡ t₆ + 28) × (s₇ ≡ put s₆ t₆ v₇) → Written c q s p b a s₀ s₇
  file_put s₀ s₁ s₂ s₃ s₄ s₅ s₆ s₇ t₁ t₂ t₃ t₄ t₅ t₆ t₇ W p₁ p₂ p₃ p₄ p₅ p₆ p₇ f =
      seven s₀ s₁ s₂ s₃ s₄ s₅ s₆ s₇ v₁ v₂ v₃ (section reply c.window s) (section event c.window s) v₆ v₇ t₁ t₂ t₃ t₄ t₅ t₆ t₇ (count c) _ _ p.filled
      p₁ (length_numbers (c.written ∷ c.expected ∷ c.read ∷ [])) p₂ (length_numbers (c.order ∷ c.capacity ∷ c.room ∷ p.order ∷ length b ∷ []))
      p₃ (length_requests (outstanding q c.first (count c)) ∙ ap (λ (n : ℕ). 4 + n) (length_outstanding q c.first (count c)))
      p₄ (long reply) p₅ (long event)
      p₆ (length_bytes (take p.filled b) ∙ ap (λ (n : ℕ). 4 + n) (length-take-le p.filled b W.filled))
      p₇ (length_numbers (a.next ∷ a.last ∷ a.step ∷ [])) W.room
      ∙ ap (put s₀ 0) (file_is W.readable W.bare f)
    where
      long : (kind : ℕ) → length (section kind c.window s) ≡ 4 + length (flat (only kind (records c.window s)))
      long kind = length-append (word 4 (length (only kind (records c.window s)))) (flat (only kind (records c.window s))) ∙ ap (λ (n : ℕ). n + length (flat (only kind (records c.window s)))) (length_bytes_of little_order 4 (length (only kind (records c.window s))))

-- ---- A SOUND CLIENT WITHOUT DESCRIPTORS IS WRITABLE, where the output is long enough

pub writable : (x : Laid) (out : List ℕ) → soundb x ≡ true → holds x ≡ false → length (encode (saved_of x)) ≤ length out
    → Writable x.connection x.rooms.requests x.rooms.store x.reader x.buffer out
unfolding soundb holds
writable x out h n l =
    let c = x.connection in let r = x.rooms in
    let S = Connection.sound_is c r (both_left _ _ h) in
    let H = Connection.ready c r S in
    let P = Reader.sound_is x.reader x.buffer (both_left _ _ (both_right _ _ h)) in
    let Z = (sized_is c.capacity r.requests).0 S.requests in
    let i : Model.inside (reads c r) ≡ 0 = eqb-true _ _ (not-false _ n) in
    let u = Held.sound_used c.read c.window r.store H.held in
    record {
      written_most = S.numbers.written_most;
      first_most = S.numbers.first_most;
      some = omega (arith, Z.least, Z.holds);
      few = omega (arith, S.numbers.count_most, Z.most);
      readable = H.held.readable;
      bare = omega (arith, S.descriptors, inside_read c r S, i);
      filled = omega (arith, P.not_reached, P.target_fits);
      short = omega (arith, P.not_reached, P.target_fits, P.most);
      room = omega (arith, l, u, length_encode x h, length_flat (replies c.window r.store), length_flat (events c.window r.store));
    }
