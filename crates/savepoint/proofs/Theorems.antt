-- Laws of `specs/Theorems.antt`. Assumes nothing.
use Rattle.std.specs.Prelude.{◌≡◌, refl, true, false, List, ◌↔◌, ℕ, ◌≤◌, ltb, eqb, length, take, replicate}
use Rattle.std.proofs.Common.{sym, ◌∙◌, subst, arith}
use Rattle.std.proofs.Math.Path.{ap}
use Rattle.std.proofs.Math.Bool.{not}
use Rattle.std.proofs.lemmas.List.{length-replicate}
use borrow.Author.Tests.{eqb-true, eq-eqb, ltb-false, le-ltb, not-false}
use Rattle.octets.specs.Logic.{both_left, both_right, both_yes}
use Rattle.octets.specs.Bytes.{Octets}
use Rattle.octets.specs.Put.{cut, cut_put}
use Rattle.refusal.specs.Answer.{Answer, gives, refuses, refuse, pass, gives_past, gives_rest, gives_same, pass_given, past_refusal}
use Rattle.packet_reader.specs.Sound as Reader
use Rattle.requests.specs.Room.{bytes_for}
use Rattle.requests.specs.Theorems.{capacity_bytes}
use Rattle.descriptors.specs.Room.{most_descriptors}
use Rattle.model.specs.Client.{inside}
use Rattle.model.specs.Reading.{Rooms, rooms, reads}
use Rattle.model.specs.Sound as Connection
use Rattle.model.proofs.EncodingLaws.{sound_range}
use Rattle.model.specs.Encoding.{Alike}
use Rattle.savepoint.specs.Saved.{Saved, sound, encode, decode}
use Rattle.savepoint.proofs.Ranges.{is_range, is_partial}
use Rattle.savepoint.proofs.SavedLaws.{client_range, none_inside, partial_fits, decode_encode, encode_decode, decode_bad}
use Rattle.savepoint.specs.Placed as Placed
use Rattle.savepoint.proofs.Placed as PlacedLaws
use Rattle.savepoint.specs.Calls.{Laid, laid, saved_of, soundb, holds, length_of, bytes_of, count_of, output_of, fitting, placed, restored, Values, values_of, rooms_after, buffer_after, Measures, Saves, Restores}
use Rattle.savepoint.specs.Theorems.{Sound}

-- ---- states and bytes

-- 02, M-100: "Two sound states have equal bytes exactly when they are equal",
pub equal_exactly : (s t : Saved) → sound s ≡ true → sound t ≡ true → (encode s ≡ encode t) ↔ (s ≡ t)
equal_exactly s t p q = (λ e. gives_same (decode_encode s p ∙ ap decode e ∙ sym (decode_encode t q)), ap encode)

-- "and reading accepts exactly what writing can produce":
pub reads_exactly : (b : List ℕ) → Octets b → (s : Saved) → (gives s ≡ decode b) ↔ ((sound s ≡ true) × (encode s ≡ b))
reads_exactly b o s = (encode_decode b o s, λ p. decode_encode s p.0 ∙ ap decode p.1)

-- all else is refused by 19.
pub refused_exactly : (b : List ℕ) (n : ℕ) → refuses n ≡ decode b → n ≡ 19
refused_exactly = decode_bad

pub sound_is : (x : Laid) → soundb x ≡ true → Sound x
unfolding soundb
sound_is x h =
    let a = both_right _ _ h in
    record { connection = Connection.sound_is x.connection x.rooms (both_left _ _ h); reader = Reader.sound_is x.reader x.buffer (both_left _ _ a); ids = both_right _ _ a }

pub is_sound : (x : Laid) → Sound x → soundb x ≡ true
unfolding soundb
is_sound x S = both_yes _ _ (Connection.is_sound x.connection x.rooms S.connection) (both_yes _ _ (Reader.is_sound x.reader x.buffer S.reader) S.ids)

none_held : (x : Laid) → holds x ≡ false → inside (reads x.connection x.rooms) ≡ 0
unfolding holds
none_held x h = eqb-true _ 0 (not-false _ h)

-- What is saved of a sound client without descriptors is sound.
pub saved_sound : (x : Laid) → Sound x → holds x ≡ false → sound (saved_of x) ≡ true
unfolding sound
saved_sound x S h =
    both_yes _ _ (is_range (saved_of x).client (sound_range x.connection x.rooms S.connection) (none_held x h))
    (both_yes _ _ (is_partial (saved_of x).reader (PlacedLaws.partial_saved x.reader x.buffer S.reader)) S.ids)

-- EQUAL BYTES EXACTLY WHEN EQUAL STATES, however two clients lie in their rooms.
pub laid_exactly : (x y : Laid) → Sound x → Sound y → holds x ≡ false → holds y ≡ false → (encode (saved_of x) ≡ encode (saved_of y)) ↔ (saved_of x ≡ saved_of y)
laid_exactly x y S T h k = equal_exactly (saved_of x) (saved_of y) (saved_sound x S h) (saved_sound y T k)

-- A saved client laid into rooms of the lengths saved is sound and is read as it was.
module _ (s : Saved) (r : Rooms) (b : List ℕ) (t : sound s ≡ true) (f : fitting s r b ≡ true) where
  fits : Placed.Fitting s.client r
  unfolding fitting
  fits =
      let a = both_right _ _ f in
      record { requests = eqb-true _ _ (both_left _ _ f); store = eqb-true _ _ (both_left _ _ a); slots = eqb-true _ _ (both_left _ _ (both_right _ _ a)) }

  long : length b ≡ s.reader.room
  unfolding fitting
  long = eqb-true _ _ (both_right _ _ (both_right _ _ (both_right _ _ f)))

  pub placed_sound : Sound (placed s r b)
  unfolding sound
  placed_sound = record {
    connection = PlacedLaws.connection_sound s.client (client_range s t) (none_inside s t) r fits;
    reader = PlacedLaws.reader_sound s.reader (partial_fits s t) b long;
    ids = both_right _ _ (both_right _ _ t);
  }

  pub placed_read : saved_of (placed s r b) ≡ s
  placed_read =
      let c = PlacedLaws.connection_read s.client (client_range s t) (none_inside s t) r fits in
      let p = PlacedLaws.reader_read s.reader (partial_fits s t) b long in
      λ i. record { client = c i; reader = p i; ids = s.ids }

  pub placed_bare : holds (placed s r b) ≡ false
  unfolding holds
  placed_bare = ap (λ (n : ℕ). not (eqb n 0)) (ap (λ (y : Saved). inside y.client) placed_read ∙ none_inside s t)

-- what `restore` gives: a sound state was read, the rooms had its lengths, and it was laid into them
pub restored_given : (bytes : List ℕ) (r : Rooms) (b : List ℕ) (x : Laid) → gives x ≡ restored bytes r b → (s : Saved) × (gives s ≡ decode bytes) × (fitting s r b ≡ true) × (x ≡ placed s r b)
unfolding restored
restored_given bytes r b x e =
    let p = pass_given (decode bytes) (λ s. refuse (not (fitting s r b)) 9 (gives (placed s r b))) e in
    (p.0, p.1, not-false _ (gives_past _ _ _ p.2), gives_same (gives_rest _ _ _ p.2))

-- what `save` gives: the bytes of what is saved of a sound client without descriptors
pub bytes_given : (x : Laid) (room : ℕ) (b : List ℕ) → gives b ≡ bytes_of x room → (Sound x) × (holds x ≡ false) × (length b ≤ room) × (b ≡ encode (saved_of x))
unfolding bytes_of length_of
bytes_given x room b e =
    let p = pass_given (length_of x) (λ n. refuse (ltb room n) 8 (gives (encode (saved_of x)))) e in
    let q = gives_rest _ _ _ p.1 in
    let z : p.0 ≡ length (encode (saved_of x)) = gives_same (gives_rest _ _ _ q) in
    let w : b ≡ encode (saved_of x) = gives_same (gives_rest _ _ _ p.2) in
    (sound_is x (not-false _ (gives_past _ _ _ p.1)), gives_past _ _ _ q, omega (arith, ltb-false room p.0 (gives_past _ _ _ p.2), ap length w), w)

-- READING WHAT WAS WRITTEN gives a sound client that is read as the same,
module _ (x : Laid) (room : ℕ) (bytes : List ℕ) (w : gives bytes ≡ bytes_of x room) (r : Rooms) (b : List ℕ) (y : Laid) (e : gives y ≡ restored bytes r b) where
  came : (s : Saved) × (gives s ≡ decode bytes) × (fitting s r b ≡ true) × (y ≡ placed s r b)
  came = restored_given bytes r b y e

  same_state : saved_of x ≡ came.0
  same_state =
      let p = bytes_given x room bytes w in
      gives_same (decode_encode (saved_of x) (saved_sound x p.0 p.1) ∙ ap decode (sym p.3) ∙ sym came.1)

  state_sound : sound came.0 ≡ true
  state_sound = let p = bytes_given x room bytes w in ap sound (sym same_state) ∙ saved_sound x p.0 p.1

  pub restored_sound : Sound y
  restored_sound = subst Sound (sym came.3) (placed_sound came.0 r b state_sound came.2)

  pub restored_read : saved_of y ≡ saved_of x
  restored_read = ap saved_of came.3 ∙ placed_read came.0 r b state_sound came.2 ∙ sym same_state

  -- so it is alike, and every later answer is the same (`ledger/proofs/Theorems.antt`),
  pub restored_alike : Alike x.connection x.rooms y.connection y.rooms
  restored_alike = record { sound = (bytes_given x room bytes w).0.connection; other_sound = restored_sound.connection; same = ap (λ (s : Saved). s.client) (sym restored_read) }

-- AND WRITING WHAT WAS READ gives the same bytes.
pub written_again : (bytes : List ℕ) → Octets bytes → (r : Rooms) (b : List ℕ) (x : Laid) → gives x ≡ restored bytes r b → (room : ℕ) → length bytes ≤ room → gives bytes ≡ bytes_of x room
unfolding bytes_of length_of pass
written_again bytes o r b x e room h =
    let p = restored_given bytes r b x e in
    let q = encode_decode bytes o p.0 p.1 in
    let S : soundb x ≡ true = is_sound x (subst Sound (sym p.3) (placed_sound p.0 r b q.0 p.2)) in
    let B : holds x ≡ false = ap holds p.3 ∙ placed_bare p.0 r b q.0 p.2 in
    let w : bytes ≡ encode (saved_of x) = sym q.1 ∙ ap encode (sym (ap saved_of p.3 ∙ placed_read p.0 r b q.0 p.2)) in
    ap gives w ∙ past_refusal _ 8 _ (le-ltb _ _ (subst (λ (l : List ℕ). length l ≤ room) w h)) ∙ ap (λ (a : Answer ℕ). pass a (λ n. refuse (ltb room n) 8 (gives (encode (saved_of x))))) (past_refusal _ 18 (gives (length (encode (saved_of x)))) B ∙ past_refusal _ 9 _ (ap not S))

-- READING ACCEPTS EXACTLY WHAT WRITING CAN PRODUCE: bytes are not refused by 19 exactly where they are the bytes of some sound client without descriptors.
accepted_is : (b : List ℕ) (a : Answer Saved) → a ≡ decode b → (refuses 19 ≡ a → ⊥) → (s : Saved) × (gives s ≡ decode b)
accepted_is b (gives s) e h = (s, e)
accepted_is b (refuses n) e h = absurd (h (ap refuses (sym (decode_bad b n e))))

-- rooms of the lengths saved
abbrev rooms_for : Saved → Rooms
rooms_for s = rooms (replicate (bytes_for s.client.most_requests) 0) (replicate s.client.most_bytes 0) (replicate most_descriptors 0)

rooms_fit : (s : Saved) → fitting s (rooms_for s) (replicate s.reader.room 0) ≡ true
unfolding fitting
rooms_fit s =
    both_yes _ _ (eq-eqb _ _ (capacity_bytes s.client.most_requests 0))
    (both_yes _ _ (eq-eqb _ _ (length-replicate {A = ℕ} s.client.most_bytes 0)) (both_yes _ _ (eq-eqb _ _ (length-replicate {A = ℕ} most_descriptors 0)) (eq-eqb _ _ (length-replicate {A = ℕ} s.reader.room 0))))

pub accepts_exactly : (b : List ℕ) → Octets b → (refuses 19 ≡ decode b → ⊥) ↔ ((x : Laid) × (Sound x) × (holds x ≡ false) × (encode (saved_of x) ≡ b))
accepts_exactly b o = (
  λ h.
      let p = accepted_is b (decode b) refl h in
      let q = encode_decode b o p.0 p.1 in
      let r = rooms_for p.0 in let f : List ℕ = replicate p.0.reader.room 0 in
      let t = rooms_fit p.0 in
      (placed p.0 r f, placed_sound p.0 r f q.0 t, placed_bare p.0 r f q.0 t, ap encode (placed_read p.0 r f q.0 t) ∙ q.1),
  λ x e.
      let g : gives (saved_of x.0) ≡ decode b = decode_encode (saved_of x.0) (saved_sound x.0 x.1 x.2) ∙ ap decode x.3 in
      never (saved_of x.0) (g ∙ sym e),
)
  where
    never : (s : Saved) → gives s ≡ refuses 19 → ⊥
    never s e = let z : ◌≡◌ {A = ℕ} 0 1 = cc in omega arith

-- ---- the promises

-- ONE OUTCOME: any two answers that a promise allows are equal, with what is lent at exit.
pub measures_one : (x : Laid) (a b : Answer ℕ) → Measures x a → Measures x b → a ≡ b
measures_one x a b p q = p ∙ sym q

pub saves_one : (x : Laid) (out : List ℕ) (a b : Answer ℕ) (s t : List ℕ) → Saves x out a s → Saves x out b t → (a ≡ b) × (s ≡ t)
saves_one x out a b s t p q = (p.answers ∙ sym q.answers, p.writes ∙ sym q.writes)

pub restores_one : (bytes : List ℕ) (r : Rooms) (f : List ℕ) (a b : Answer Values) (s t : Rooms) (g h : List ℕ) → Restores bytes r f a s g → Restores bytes r f b t h → (a ≡ b) × (s ≡ t) × (g ≡ h)
restores_one bytes r f a b s t g h p q = (p.answers ∙ sym q.answers, p.leaves ∙ sym q.leaves, p.fills ∙ sym q.fills)

-- THE ORDER of the refusals: 9, 18, 8, whatever the output; 19, 9, whatever the rooms.
module _ (x : Laid) (room : ℕ) where
  pub unsound_first : soundb x ≡ false → refuses 9 ≡ bytes_of x room
  unfolding bytes_of length_of pass refuse
  unsound_first h = simp h

  module _ (s : soundb x ≡ true) where
    pub held_next : holds x ≡ true → refuses 18 ≡ bytes_of x room
    unfolding bytes_of length_of pass refuse
    held_next h = simp (s, h)

    pub short_last : holds x ≡ false → ltb room (length (encode (saved_of x))) ≡ true → refuses 8 ≡ bytes_of x room
    unfolding bytes_of length_of pass refuse
    short_last h k = simp (s, h, k)

module _ (bytes : List ℕ) (r : Rooms) (b : List ℕ) where
  pub bad_first : refuses 19 ≡ decode bytes → refuses 19 ≡ restored bytes r b
  unfolding restored pass
  bad_first h = simp (sym h)

  pub rooms_next : (s : Saved) → gives s ≡ decode bytes → fitting s r b ≡ false → refuses 9 ≡ restored bytes r b
  unfolding restored pass refuse
  rooms_next s h f = simp (sym h, f)

-- A REFUSAL leaves all as found.
pub save_refused : (x : Laid) (out : List ℕ) (n : ℕ) (out' : List ℕ) → Saves x out (refuses n) out' → out' ≡ out
unfolding count_of output_of
save_refused x out n out' p = go (bytes_of x (length out)) p.answers p.writes
  where
    go : (a : Answer (List ℕ)) → refuses n ≡ count_of a → out' ≡ output_of a out → out' ≡ out
    go (gives b) e w = absurd (let z : ◌≡◌ {A = ℕ} 0 1 = cc in omega arith)
    go (refuses m) e w = w

pub restore_refused : (bytes : List ℕ) (r : Rooms) (b : List ℕ) (n : ℕ) (r' : Rooms) (b' : List ℕ) → Restores bytes r b (refuses n) r' b' → (r' ≡ r) × (b' ≡ b)
unfolding values_of rooms_after buffer_after
restore_refused bytes r b n r' b' p = go (restored bytes r b) p.answers p.leaves p.fills
  where
    go : (a : Answer Laid) → refuses n ≡ values_of a → r' ≡ rooms_after a r → b' ≡ buffer_after a b → (r' ≡ r) × (b' ≡ b)
    go (gives x) e v w = absurd (let z : ◌≡◌ {A = ℕ} 0 1 = cc in omega arith)
    go (refuses m) e v w = (v, w)

-- what the promises give, as outcomes
pub saves_given : (x : Laid) (out : List ℕ) (n : ℕ) (out' : List ℕ) → Saves x out (gives n) out' → gives (take n out') ≡ bytes_of x (length out)
unfolding count_of output_of cut
saves_given x out n out' p = go (bytes_of x (length out)) refl p.answers p.writes
  where
    go : (a : Answer (List ℕ)) → a ≡ bytes_of x (length out) → gives n ≡ count_of a → out' ≡ output_of a out → gives (take n out') ≡ a
    go (gives b) q e w =
        let m : n ≡ length b = gives_same e in
        let l : length b ≤ length out = (bytes_given x (length out) b q).2 in
        ap gives ((λ i. take (m i) (w i)) ∙ cut_put out 0 b (length b) refl (omega arith))
    go (refuses m) q e w = absurd (let z : ◌≡◌ {A = ℕ} 0 1 = cc in omega arith)

pub restores_given : (bytes : List ℕ) (r : Rooms) (b : List ℕ) (v : Values) (r' : Rooms) (b' : List ℕ) → Restores bytes r b (gives v) r' b' → gives (laid v.0 r' v.1.0 b' v.1.1) ≡ restored bytes r b
unfolding values_of rooms_after buffer_after
restores_given bytes r b v r' b' p = go (restored bytes r b) p.answers p.leaves p.fills
  where
    go : (a : Answer Laid) → gives v ≡ values_of a → r' ≡ rooms_after a r → b' ≡ buffer_after a b → gives (laid v.0 r' v.1.0 b' v.1.1) ≡ a
    go (gives x) e f g = let z = gives_same e in λ i. gives (laid (z i).0 (f i) (z i).1.0 (g i) (z i).1.1)
    go (refuses m) e f g = absurd (let z : ◌≡◌ {A = ℕ} 0 1 = cc in omega arith)

-- SOUNDNESS IS KEPT: whatever bytes are read, a client that is handed back is sound, also where no run wrote them.
pub kept_sound : (bytes : List ℕ) → Octets bytes → (r : Rooms) (b : List ℕ) (v : Values) (r' : Rooms) (b' : List ℕ) → Restores bytes r b (gives v) r' b' → Sound (laid v.0 r' v.1.0 b' v.1.1)
kept_sound bytes o r b v r' b' p =
    let q = restored_given bytes r b _ (restores_given bytes r b v r' b' p) in
    subst Sound (sym q.3) (placed_sound q.0 r b (encode_decode bytes o q.0 q.1).0 q.2)

-- SAVED, AND RESTORED IN OTHER ROOMS: by the promises of the two calls, the client is sound and is read as the one that was saved.
module _ (x : Laid) (out : List ℕ) (n : ℕ) (out' : List ℕ) (s : Saves x out (gives n) out') (r : Rooms) (b : List ℕ) (v : Values) (r' : Rooms) (b' : List ℕ) (t : Restores (take n out') r b (gives v) r' b') where
  abbrev again : Laid
  again = laid v.0 r' v.1.0 b' v.1.1

  pub again_sound : Sound again
  again_sound = restored_sound x (length out) (take n out') (saves_given x out n out' s) r b again (restores_given (take n out') r b v r' b' t)

  pub again_read : saved_of again ≡ saved_of x
  again_read = restored_read x (length out) (take n out') (saves_given x out n out' s) r b again (restores_given (take n out') r b v r' b' t)

  pub again_alike : Alike x.connection x.rooms v.0 r'
  again_alike = restored_alike x (length out) (take n out') (saves_given x out n out' s) r b again (restores_given (take n out') r b v r' b' t)
