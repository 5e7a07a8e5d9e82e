-- What a send writes into its row is the state that it leaves. Assumes nothing.
use Rattle.std.specs.Prelude.{◌≡◌, refl, List, ℕ}
use Rattle.std.proofs.Common.{sym, ap, subst, ◌∙◌, arith}
use Rattle.refusal.specs.Answer.{Answer, gives, refuses, pass}
use Rattle.sequence.specs.Sending as Rule
use Rattle.model.specs.Reading.{Rooms}
use Rattle.model.specs.Promise.{answer_of, same}
use Rattle.model.specs.declared.Connection.{Connection}
use Rattle.model.specs.declared.ReplyFdKind.{ReplyFdKind}
use Rattle.model.specs.Moved.{sent_state}
use Rattle.sending.specs.Send.{sendable, sent_done, send_exact}
use Rattle.connection.specs.Calls.{Sends}
use Rattle.rows.specs.State.{connection_of, connection_row, sent_row}
use Rattle.rows.specs.Theorems.{sent_row_lem}
use Rattle.answers.specs.Exported.{Kept, shown_of}
use Rattle.xiengmado.specs.Keeping.{gave, sound_fits}
use Rattle.answers.specs.Shown.{state_row, sent_in, first}

-- the state handed back differs from the one before in two numbers
record Changed (c d : Connection) : Type 0 where
  n : ℕ
  e : ℕ
  so : d ≡ sent_state c n e

changed : (c : Connection) (a : Answer Rule.Numbers) (r : Rooms) (kind : ReplyFdKind) (x : ℕ × Connection) → gives x ≡ answer_of same (pass a (λ n. gives (sent_done c r kind n))) → Changed c x.1
unfolding answer_of pass
changed c (gives n) r kind x q =
    let z : x ≡ (n.number, sent_state c n.number n.expected) = cc in record { n = n.number; e = n.expected; so = ap (λ (y : ℕ × Connection). y.1) z }
changed c (refuses k) r kind x q = absurd (let y : ◌≡◌ {A = ℕ} 0 1 = cc in omega arith)

agree : (s : List ℕ) (r : Rooms) (kind : ReplyFdKind) (k : Answer (ℕ × Connection)) (r' : Rooms) → Sends (connection_of s) r kind k r' → shown_of (sent_in s) k s ≡ shown_of (state_row s) k s
unfolding send_exact
agree s r kind (refuses n) r' p = refl
agree s r kind (gives x) r' p =
    let g = gave same (connection_of s) r (send_exact (connection_of s) r kind) x p.exact.answers in
    let d = changed (connection_of s) (sendable (connection_of s) kind) r kind x g.1 in
    let h = sent_row_lem s d.n d.e (sound_fits s r g.0) in
    ap (sent_row s) d.so ∙ h ∙ sym (ap (connection_row s) d.so)

-- An export that sends keeps the state that it is handed.
pub kept_sent : {P : Answer (ℕ × Connection) → Type 0} {v v' s s' : List ℕ} {code : ℕ} {k : Answer (ℕ × Connection)} (r : Rooms) (kind : ReplyFdKind) (r' : Rooms)
    → Kept (λ a. a ≡ k) first (sent_in s) v v' s s' code → Sends (connection_of s) r kind k r' → P k → Kept P first (state_row s) v v' s s' code
kept_sent {P = P} {s = s} {k = k} r kind r' x h p =
    let q = x.exported.promise in
    record {
      exported = record { answer = x.exported.answer; promise = subst P (sym q) p; number = x.exported.number; values = x.exported.values };
      state =
          x.state ∙ ap (λ (a : Answer (ℕ × Connection)). shown_of (sent_in s) a s) q ∙ agree s r kind k r' h ∙ sym (ap (λ (a : Answer (ℕ × Connection)). shown_of (state_row s) a s) q);
    }
