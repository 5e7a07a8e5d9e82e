-- DEMAND 3: with an honest server every packet is filed under its true number, however long the run and whatever calls it mixes. Assumes nothing.
use Rattle.std.specs.Prelude.{Bool, not, List, ◌≡◌, ℕ, ◌≤◌, ltb, length}
use Rattle.std.proofs.Math.Bool.{true, false}
use Rattle.std.proofs.Math.Path.{refl}
use Rattle.std.proofs.Common.{sym, ap, ◌∙◌, arith, le-ltb}
use Rattle.octets.specs.Logic.{both}
use Rattle.refusal.specs.Answer.{Answer, gives, refuses, refuse, pass, gives_same}
use Rattle.packet.specs.Packet.{least_packet, most_packet, code_of, unnumbered}
use Rattle.model.specs.Client.{Client}
use Rattle.packet.specs.Laws.{number_last, number_full}
use Rattle.model.specs.Model.{packet_number, asked_of, Filing, ahead, enqueue_packet}
use Rattle.model.specs.Deciding.{fitted_by}
use Rattle.model.proofs.Deciding.{enqueue_chain}
use Rattle.model.specs.Calls.{Call, step}
use Rattle.model.specs.Promise.{Done, Promise}
use Rattle.model.specs.Reading.{Rooms, reads}
use Rattle.model.specs.Sound.{soundb}
use Rattle.model.specs.declared.Connection.{Connection}
use Rattle.honest.specs.Run.{Entry, Runs, Fair, Honest, Right, Ordered, Ordinary, Filed, Hands}
use Rattle.honest.specs.Rules.{Inv}
use Rattle.honest.proofs.RulesLaws.{ruled_inv, ruled_ordered, true_range}
use Rattle.honest.specs.Calls.{Taking}
use Rattle.honest.proofs.Calls.{taking, lands, counted, runs_ruled, one_of}
use Rattle.honest.specs.Server.{packets_in}
use Rattle.honest.specs.Origins.{Lists, Traced, AllTied, OneOf}
use Rattle.honest.proofs.OriginsLaws.{traced_client, traced_tied, holds_one}
use Rattle.honest.specs.Public.{Public, public_runs, came, given_so, refused_so}
use Rattle.honest.specs.Handing.{hands}

-- ---- Over the model

-- With any server a packet that carries no number is taken in under the last read, 1 and 2 apart:
module _ (c : Client) (p : List ℕ) (h : unnumbered (code_of p) ≡ true) where
  last_asked : ahead (code_of p) c.numbers.read c.numbers.written ≡ false
  unfolding ahead both
  last_asked = go (ltb c.numbers.written c.numbers.read)
    where
      go : (b : Bool) → both b (not (unnumbered (code_of p))) ≡ false
      go true = simp h
      go false = refl

  last_packet : enqueue_packet c p ≡ refuse (ltb (length p) least_packet) 1 (refuse (ltb most_packet (length p)) 2 (fitted_by c p c.numbers.read (asked_of c c.numbers.read)))
  unfolding pass refuse
  last_packet = enqueue_chain c p ∙ rw (number_last c.order c.numbers.read p h, last_asked)

  -- UNNUMBERED: it is refused by 1, 2, 4 and 5 alone, and never by 3 or 20.
  pub unnumbered_refused : (n : ℕ) → enqueue_packet c p ≡ refuses n → Ordinary n
  unnumbered_refused n e = one_of _ _ _ _ _ n (sym last_packet ∙ e)

-- NEVER PAST: whatever the server sends, the last read does not pass next reply expected, nor that the last written.
pub never_past : {c : Client} {log : List Entry} → Runs c log → Ordered c.numbers
never_past r = ruled_ordered (runs_ruled r)

-- TRUE NUMBERS: the number under which the engine filed, or reckoned, each packet of the run is the true one.
pub true_numbers : {c : Client} {log : List Entry} → Runs c log → Honest c.order log → Right log
true_numbers r h = (ruled_inv (runs_ruled r) h).right

-- A run with an honest server, and the packet p with the true number t that comes next.
module _ {c : Client} {log : List Entry} (r : Runs c log) (h : Honest c.order log) (t : ℕ) (p : List ℕ) (carries : unnumbered (code_of p) ≡ false) (fair : Fair c.order log t p) where
  abbrev inv : Inv c.numbers log
  inv = ruled_inv (runs_ruled r) h

  -- Its number is t, numbers do not end before it, and it answers what was asked.
  pub next_number : packet_number c p ≡ gives t
  next_number = number_full c.order c.numbers.read p carries ∙ true_range c.order c.numbers log inv t p fair

  pub next_asked : ahead (code_of p) t c.numbers.written ≡ false
  unfolding ahead both
  next_asked = simp (le-ltb c.numbers.written t (omega (arith, fair.known, inv.counted)))

  -- So 1 and 2 apart, intake is the taking in under the true number,
  pub next_packet : enqueue_packet c p ≡ refuse (ltb (length p) least_packet) 1 (refuse (ltb most_packet (length p)) 2 (fitted_by c p t (asked_of c t)))
  unfolding pass refuse
  next_packet = enqueue_chain c p ∙ rw (next_number, next_asked)

  -- NEVER ENDED, NEVER AHEAD: it is refused by 1, 2, 4 and 5 alone, and never by 3 or 20.
  pub never_ended : (n : ℕ) → enqueue_packet c p ≡ refuses n → Ordinary n
  never_ended n e = one_of _ _ _ _ _ n (sym next_packet ∙ e)

  -- FILED: where it is taken in, it is filed under its true number, or if dropped was reckoned by it.
  pub next_filed : (x : Filing × Client) → gives x ≡ enqueue_packet c p → Filed c p t x
  next_filed x e = at_true (taking c p x e)
    where
      at_true : Taking c p x → Filed c p t x
      at_true k =
          let n : k.n ≡ t = gives_same (k.number_is ∙ next_number) in
          let m : x.0.number ≡ t = ap (λ f. f.number) k.filing_is ∙ n in
          record {
            number = m;
            last_read = ap (λ y. y.read) (counted c p x k carries).numbers_is ∙ m;
            record_is = rw n at (lands c p x k);
          }

-- TIED: whichever way the records of a run are followed (`runs_traced`: there is one), each that is held bears the true number of the very packet that it came from,
pub run_tied : {c : Client} {log : List Entry} {r : Runs c log} {x : Lists} → Traced c log r x → Honest c.order log → AllTied (packets_in log) x
run_tied {r = r} t h = traced_tied t (true_numbers r h)

-- and what a call hands out is one of them.
pub handed_tied : {c : Client} {log : List Entry} {r : Runs c log} {x : Lists} → Traced c log r x → Honest c.order log → (z : Call) → Hands (OneOf (packets_in log) x) (step c z).said
handed_tied {c} {log} {r} {x} t h z = hands (OneOf (packets_in log) x) c z (holds_one c (packets_in log) x (traced_client t) (run_tied t h))

-- ---- For the public calls, over state and rooms

pub public_never_past : {c : Connection} {r : Rooms} {log : List Entry} → Public c r log → (c.read ≤ c.expected) × (c.expected ≤ c.written)
unfolding reads
public_never_past k = let w = never_past (public_runs k) in (w.read_most, w.expected_most)

pub public_true : {c : Connection} {r : Rooms} {log : List Entry} → Public c r log → Honest c.order log → Right log
unfolding reads
public_true k h = true_numbers (public_runs k) h

-- A run of public calls with an honest server, and the call that brings its next packet.
module _ {c : Connection} {r : Rooms} {log : List Entry} (k : Public c r log) (h : Honest c.order log) (t : ℕ) (p : List ℕ) (carries : unnumbered (code_of p) ≡ false) (fair : Fair c.order log t p)
    (e : Answer (Done Filing)) (a : Answer (Filing × Connection)) (r' : Rooms) (promise : Promise (λ f. f) e (λ m. enqueue_packet m p) c r a r') where
  pub public_filed : (f : Filing) (s : Connection) → a ≡ gives (f, s) → Filed (reads c r) p t (f, reads s r')
  unfolding reads
  public_filed f s q = next_filed (public_runs k) h t p carries fair (f, reads s r') (sym (given_so (came _ e (λ m. enqueue_packet m p) c r a r' promise) f s q))

  -- a state that is not sound is refused by 9
  pub public_never_ended : soundb c r ≡ true → (n : ℕ) → a ≡ refuses n → Ordinary n
  unfolding reads
  public_never_ended s n q = never_ended (public_runs k) h t p carries fair n (refused_so _ e (λ m. enqueue_packet m p) c r a r' s promise n q)
