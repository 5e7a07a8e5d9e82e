-- Laws of `specs/StateLaws.antt`. Assumes nothing.
use Rattle.std.specs.Prelude.{List, ◌≡◌, refl, not, ℕ, eqb, length, take}
use Rattle.std.proofs.Common.{sym, ap, ◌∙◌, arith, length-take-le}
use Rattle.refusal.specs.Answer.{Answer, gives, refuses, refuse, pass}
use Rattle.packet_reader.specs.Sound as Reader
use Rattle.packet_reader.specs.Alike as Readers
use Rattle.packet_reader.specs.declared.PacketReader.{PacketReader}
use Rattle.requests.specs.Room.{capacity}
use Rattle.descriptors.specs.Room.{most_descriptors}
use Rattle.model.specs.Client.{Client}
use Rattle.model.specs.Model.{fresh, new}
use Rattle.model.specs.Encoding.{Alike}
use Rattle.model.specs.Promise.{Done, answer_of, rooms_of, model_of, guarded, guarded_on, same}
use Rattle.model.specs.Reading.{Rooms, reads}
use Rattle.model.specs.Sound.{Sound, is_sound}
use Rattle.model.specs.declared.Connection.{Connection}
use Rattle.savepoint.specs.Saved.{Partial, Saved}
use Rattle.savepoint.specs.Calls.{Laid, Values, Saves, Restores, partial_of}
use Rattle.savepoint.proofs.Theorems.{bytes_given, saves_given, again_sound, again_read, again_alike}
use Rattle.connection.specs.Calls.{open_exact, opened, Opens}
use Rattle.connection.specs.Opening.{opens_sound, opens_fresh}
use Rattle.honest.specs.Public.{state_of}
use Rattle.session.specs.Ask.{Ask, Form, form, Value, Outputs, told, Answers, OfBytes}
use Rattle.session.specs.AskLaws.{outputs_of, HasForm, has_form, goes_sound}
use Rattle.ledger.specs.State.{Seen, as_read, shown_by, written_by, Same, AllHeard, Row, none, call}
use Rattle.ledger.specs.StateLaws.{Alone}

form_alone : (f : Form) (c : Connection) (r : Rooms) → Sound c r → (a : Answer (f.Value × Connection)) (r' : Rooms) (o : f.Outputs) → HasForm f c r a r' o → Alone f c r a r' o
unfolding answer_of rooms_of model_of told state_of shown_by outputs_of written_by
form_alone f c r S a r' o k = rw (k.promise.exact.answers, k.promise.exact.leaves, k.outputs) (go (guarded c r (f.exactly c r)) (k.promise.model ∙ guarded_on c r (f.modelled (reads c r)) (is_sound c r S)))
  where
    go : (g : Answer (Done f.Given)) → model_of g ≡ f.modelled (reads c r) → Alone f c r (answer_of f.shows g) (rooms_of g r) (outputs_of f.lent f.written g)
    go (gives d) q = record { seen = ap (shown_by f.shows (reads c r)) q; outputs = ap (written_by f.lent f.written) q }
    go (refuses n) q = record { seen = ap (shown_by f.shows (reads c r)) q; outputs = ap (written_by f.lent f.written) q }

pub call_alone : (x : Ask) (c : Connection) (r : Rooms) → Sound c r → (a : Answer (Value x × Connection)) (r' : Rooms) (o : Outputs x) → Answers x c r a r' o → Alone (form x) c r a r' o
call_alone x c r S a r' o h = form_alone (form x) c r S a r' o (has_form x c r a r' o h)

-- ---- of two states that are alike

pub call_same : (x : Ask) → OfBytes x → (c : Connection) (r : Rooms) (d : Connection) (q : Rooms) → Alike c r d q → (a b : Answer (Value x × Connection)) (r' q' : Rooms) (o p : Outputs x) → Answers x c r a r' o → Answers x d q b q' p
    → Same c a r' d b q' × (o ≡ p)
call_same x w c r d q k a b r' q' o p h i =
    let f : Form = form x in
    let m = call_alone x c r k.sound a r' o h in
    let n = call_alone x d q k.other_sound b q' p i in
    let z : as_read c a r' ≡ as_read d b q' = m.seen ∙ ap (λ (s : Client). shown_by f.shows s (f.modelled s)) k.same ∙ sym n.seen in (
      record {
        tells = ap (λ (s : Seen (Value x)). s.answer) z;
        leaves = record { sound = goes_sound x w c r k.sound a r' o h; other_sound = goes_sound x w d q k.other_sound b q' p i; same = ap (λ (s : Seen (Value x)). s.next) z };
      },
      m.outputs ∙ ap (λ (s : Client). written_by f.lent f.written (f.modelled s)) k.same ∙ sym n.outputs,
    )

-- ---- rows of calls

pub rows_same : {xs : List Ask} {c : Connection} {r : Rooms} {d : Connection} {q : Rooms} {hs gs : AllHeard xs} {c' d' : Connection} {r' q' : Rooms} → Alike c r d q → Row xs c r hs c' r' → Row xs d q gs d' q' → (hs ≡ gs) × Alike c' r' d' q'
rows_same k none none = (refl, k)
rows_same {c = c} {r = r} {d = d} {q = q} k (call x a r' o w h l) (call y b q' p v i m) =
    let z = call_same x w c r d q k a b r' q' o p h i in
    let u = rows_same z.0.leaves l m in
    (λ j. ((z.0.tells j, z.1 j), u.0 j), u.1)

-- ---- `new`

new_told : (g : Answer (Done Unit)) (m : Client) → told (answer_of same g) ≡ (shown_by same m (model_of g)).answer
unfolding answer_of model_of told shown_by
new_told (gives d) m = refl
new_told (refuses n) m = refl

module _ (o : ℕ) (r q : Rooms) (k : capacity r.requests ≡ capacity q.requests) (s : length r.store ≡ length q.store) where
  opened_same : length r.slots ≡ length q.slots → opened o r ≡ opened o q
  unfolding opened
  opened_same f = λ j. refuse (not (eqb (f j) most_descriptors)) 9 (pass (new o (k j) (s j)) (λ c. gives (tt, c)))

  -- it tells the same, whatever stands in rooms of these lengths
  pub new_same : length r.slots ≡ length q.slots → (a b : Answer (Unit × Connection)) → Opens o r a → Opens o q b → told a ≡ told b
  new_same f a b h i =
      let m : Client = fresh o 0 0 in
      ap told h.exact.answers ∙ new_told (open_exact o r) m ∙ ap (λ (x : Answer (Unit × Client)). (shown_by same m x).answer) (h.model ∙ opened_same f ∙ sym i.model) ∙ sym (ap told i.exact.answers ∙ new_told (open_exact o q) m)

  -- and leaves states that are alike
  pub new_alike : (c d : Connection) → Opens o r (gives (tt, c)) → Opens o q (gives (tt, d)) → Alike c r d q
  new_alike c d h i =
      record {
        sound = opens_sound o r c h;
        other_sound = opens_sound o q d i;
        same = opens_fresh o r c h ∙ (λ j. fresh o (k j) (s j)) ∙ sym (opens_fresh o q d i);
      }

-- ---- saved, and restored in other rooms

-- what is filled of a sound reader's buffer is as long as it says
filled_long : (p : PacketReader) (b : List ℕ) → Reader.Sound p b → length (take p.filled b) ≡ p.filled
filled_long p b S = length-take-le p.filled b (omega (arith, S.target_fits, S.not_reached))

partial_alike : (p : PacketReader) (b : List ℕ) (q : PacketReader) (d : List ℕ) → Reader.Sound p b → Reader.Sound q d → partial_of p b ≡ partial_of q d → Readers.Alike p b q d
partial_alike p b q d S T e =
    let f : take p.filled b ≡ take q.filled d = ap (λ (y : Partial). y.filled) e in
    record {
      sound = S;
      other_sound = T;
      order = ap (λ (y : Partial). y.order) e;
      long = ap (λ (y : Partial). y.room) e;
      filled = sym (filled_long p b S) ∙ ap length f ∙ filled_long q d T;
      bytes = f;
    }

module _ (x : Laid) (out : List ℕ) (n : ℕ) (out' : List ℕ) (s : Saves x out (gives n) out') (q : Rooms) (b : List ℕ) (v : Values) (q' : Rooms) (b' : List ℕ) (t : Restores (take n out') q b (gives v) q' b') where
  pub restored_same : {xs : List Ask} {hs gs : AllHeard xs} {c' d' : Connection} {r' s' : Rooms} → Row xs x.connection x.rooms hs c' r' → Row xs v.0 q' gs d' s' → (hs ≡ gs) × Alike c' r' d' s'
  restored_same l m = rows_same (again_alike x out n out' s q b v q' b' t) l m

  pub restored_ids : v.1.1 ≡ x.ids
  restored_ids = ap (λ (y : Saved). y.ids) (again_read x out n out' s q b v q' b' t)

  pub restored_reader : Readers.Alike x.reader x.buffer v.1.0 b'
  restored_reader =
      partial_alike x.reader x.buffer v.1.0 b' (bytes_given x (length out) (take n out') (saves_given x out n out' s)).0.reader (again_sound x out n out' s q b v q' b' t).reader
      (sym (ap (λ (y : Saved). y.reader) (again_read x out n out' s q b v q' b' t)))
