-- What is certain of the text, whatever pieces the bytes come in and however often the output is handed on. Assumes nothing.
use Rattle.std.specs.Prelude.{◌≡◌, refl, true, false, List, [], ◌∷◌, ◌++◌, ℕ, zero, suc, ◌≤◌, ◌<◌, length, drop}
use Rattle.std.proofs.Common.{sym, ap, ◌∙◌, subst, append_assoc, arith, length-drop}
use Rattle.packet_reader.specs.Stream.{joined}
use Rattle.listing.specs.Text.{first_line, text_of}
use Rattle.packet.specs.Packet.{least_packet}
use Rattle.listing.specs.Call.{line_most, Point, start, after, ended, Want, bytes, room, nothing_more, Row, call_of, point_of, want_of, Turns}
use Rattle.listing.specs.declared.Stage.{Stage}
use Rattle.listing.specs.declared.Wants.{Wants}
use Rattle.listing.specs.declared.Turn.{Turn}
use Rattle.listing.specs.Loop.{call_used}
use Rattle.listing.specs.Ends.{Comes, last, later, call_comes, call_opens}
use Rattle.listing.specs.Due.{due, call_due}

-- A run of calls, from a place with bytes in hand and pieces to come, and the text that it gathers: the next piece comes, or a call is made with an output of any size, or, once no piece is to come, one that says so; until the last line is written.
pub data Gathers : Point → List ℕ → List (List ℕ) → List ℕ → Type 0 where
  done : {s : List ℕ} {xs : List (List ℕ)} → Gathers ended s xs []
  piece : {p : Point} {s x t : List ℕ} {xs : List (List ℕ)} → Gathers p (s ++ x) xs t → Gathers p s (x ∷ xs) t
  call : {p : Point} {s t : List ℕ} {xs : List (List ℕ)} (left : ℕ) → Gathers (call_of false left p s).point (drop (call_of false left p s).used s) xs t → Gathers p s xs ((call_of false left p s).text ++ t)
  over : {p : Point} {s t : List ℕ} (left : ℕ) → Gathers (call_of true left p s).point (drop (call_of true left p s).used s) [] t → Gathers p s [] ((call_of true left p s).text ++ t)

-- What is gathered is what was due of all the bytes.
gathered : {p : Point} {s t : List ℕ} {xs : List (List ℕ)} → Gathers p s xs t → t ≡ due p (s ++ joined xs)
unfolding due
gathered done = refl
gathered {p} {s} (piece {x = x} {xs = xs} q) = gathered q ∙ ap (due p) (append_assoc s x (joined xs))
gathered {p} {s} {xs = xs} (call left q) =
    ap (λ (y : List ℕ). (call_of false left p s).text ++ y) (gathered q)
    ∙ sym (call_due false left p s (joined xs) (λ z. absurd (let y : ◌≡◌ {A = ℕ} 0 1 = cc in omega arith)))
gathered {p} {s} (over left q) =
    ap (λ (y : List ℕ). (call_of true left p s).text ++ y) (gathered q) ∙ sym (call_due true left p s [] (λ z. refl))

-- THE TEXT OF A STREAM, gathered over any pieces of it and any outputs, is the text of the whole.
pub any_pieces : {t : List ℕ} {xs : List (List ℕ)} → Gathers start [] xs t → t ≡ text_of (joined xs)
unfolding due
any_pieces q = gathered q

-- ---- And every run comes to its end.

-- a run, and its text
pub record Ended (p : Point) (s : List ℕ) (xs : List (List ℕ)) : Type 0 where
  pub text : List ℕ
  pub run : Gathers p s xs text

module _ (left : ℕ) (h : line_most ≤ left) where
  -- at the end of the input every call uses a packet, or is the last
  ends_after : (k read : ℕ) (s : List ℕ) → length s < k → Ended (after read) s []
  ends_after zero read s f = absurd (let z : ⊥ = omega arith in z)
  ends_after (suc k) read s f = go (call_comes left read s h) (λ m u. ends_after k m (drop (call_of true left (after read) s).used s) (omega (arith, length-drop (call_of true left (after read) s).used s, call_used true left (after read) s)))
    where
      go : Comes least_packet (call_of true left (after read) s) → ((m : ℕ) → least_packet ≤ (call_of true left (after read) s).used → Ended (after m) (drop (call_of true left (after read) s).used s) []) → Ended (after read) s []
      go (last e) w =
          record {
            text = (call_of true left (after read) s).text ++ [];
            run = over left (subst (λ (q : Point). Gathers q (drop (call_of true left (after read) s).used s) [] []) (sym e) done);
          }
      go (later m e u) w =
          record {
            text = (call_of true left (after read) s).text ++ (w m u).text;
            run = over left (subst (λ (q : Point). Gathers q (drop (call_of true left (after read) s).used s) [] (w m u).text) (sym e) (w m u).run);
          }

  ends_over : (s : List ℕ) → Ended start s []
  ends_over s =
      let w = ends_after (suc (length s)) 0 s (omega arith) in
      let e : call_of true left start s ≡ record { text = first_line; used = 0; point = after 0; want = room } = call_opens left s h in
      record { text = (call_of true left start s).text ++ w.text; run = over left (subst (λ (r : Row). Gathers r.point (drop r.used s) [] w.text) (sym e) w.run) }

  ends_from : (s : List ℕ) (xs : List (List ℕ)) → Ended start s xs
  ends_from s [] = ends_over s
  ends_from s (x ∷ xs) = let w = ends_from (s ++ x) xs in record { text = w.text; run = piece w.run }

  -- With outputs that have room for any line, a stream in any pieces has a run of calls to its last line.
  pub ends : (xs : List (List ℕ)) → Ended start [] xs
  ends xs = ends_from [] xs

-- ---- Any two outcomes that the promise allows are equal.

back_point : Point → Stage
back_point start = Stage.Start
back_point (after n) = Stage.After (record { 0 = n })
back_point ended = Stage.Ended

back_point_lem : (p : Stage) → back_point (point_of p) ≡ p
unfolding back_point
back_point_lem Stage.Start = refl
back_point_lem (Stage.After n) = refl
back_point_lem Stage.Ended = refl

back_want : Want → Wants
back_want bytes = Wants.Bytes
back_want room = Wants.Room
back_want nothing_more = Wants.Nothing

back_want_lem : (w : Wants) → back_want (want_of w) ≡ w
unfolding back_want
back_want_lem Wants.Bytes = refl
back_want_lem Wants.Room = refl
back_want_lem Wants.Nothing = refl

pub turns_one : (row : Row) (buf : List ℕ) (held : ℕ) (out : List ℕ) (a b : Turn) (buf₁ buf₂ out₁ out₂ : List ℕ) → Turns row buf held out a buf₁ out₁ → Turns row buf held out b buf₂ out₂
    → (a ≡ b) × (buf₁ ≡ buf₂) × (out₁ ≡ out₂)
turns_one row buf held out a b buf₁ buf₂ out₁ out₂ p q =
    let h : a.held ≡ b.held = p.kept ∙ sym q.kept in
    let w : a.written ≡ b.written = p.written ∙ sym q.written in
    let l : a.place ≡ b.place = sym (back_point_lem a.place) ∙ ap back_point (p.place ∙ sym q.place) ∙ back_point_lem b.place in
    let n : a.wants ≡ b.wants = sym (back_want_lem a.wants) ∙ ap back_want (p.wants ∙ sym q.wants) ∙ back_want_lem b.wants in
    (λ i. record { held = h i; written = w i; place = l i; wants = n i }, p.holds ∙ sym q.holds, p.stands ∙ sym q.stands)
