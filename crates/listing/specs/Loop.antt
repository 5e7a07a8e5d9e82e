-- What the loop over the bytes keeps. Assumes nothing.
use Rattle.std.specs.Prelude.{◌≡◌, refl, Bool, true, false, List, [], ◌++◌, ltb, get_or}
use Rattle.std.proofs.Common.{sym, ◌∙◌, append_assoc, length-append, drop-drop, get_or-drop, lt-ltb, le-ltb}
use Rattle.std.proofs.Math.Path.{ap, subst}
use Prim.Native.Nat.{ℕ, zero, suc, ◌+◌, ◌-◌, ◌≤◌, ◌<◌}
use native.Mathlib.Omega.{arith}
use Rattle.std.proofs.Math.ListN.{length, take, drop, length-drop}
use Rattle.std.proofs.Math.Seq.{take-length, length-take-le}
use Rattle.octets.specs.Logic.{choose}
use Rattle.octets.specs.Put.{put, cut, length_put, put_none, put_more, take_drop}
use Rattle.sequence.specs.declared.SequenceNumber.{SequenceNumber}
use Rattle.packet.specs.Packet.{least_packet, code_of}
use Rattle.listing.specs.Text.{first_line, line_of, refused_line}
use Rattle.listing.specs.Call.{line_most, Wrote, Ahead, none, refused, packet, ahead_of, Point, Row, waits, closes, behind, closing, turn, rows, row_of, opening, call_of, start, after, ended, room, point_of, want_of, Lists, Turns}
use Rattle.listing.specs.Laws.{packet_fits}
use Rattle.listing.specs.declared.Stage.{Stage}
use Rattle.listing.specs.declared.Wants.TheVariants as Wants
use Rattle.listing.specs.declared.lines.Listed.{Listed}

-- ---- a turn

module _ (k : ℕ) (over : Bool) (left read : ℕ) (s : List ℕ) where
  rows_full : 0 < k → left < line_most → rows k over left read s ≡ waits (after read) room
  unfolding rows choose
  rows_full e h = go k e
    where
      go : (j : ℕ) → 0 < j → rows j over left read s ≡ waits (after read) room
      go zero z = absurd (let y : ⊥ = omega arith in y)
      go (suc j) z = simp (lt-ltb left line_most h)

rows_turn : (k : ℕ) (over : Bool) (left read : ℕ) (s : List ℕ) → line_most ≤ left
    → rows (suc k) over left read s ≡ turn over read s (ahead_of read s) (λ n m. rows k over (left - length (line_of (code_of s) n m)) m (drop n s))
unfolding rows choose
rows_turn k over left read s h = simp (le-ltb left line_most h)

rows_none : (k : ℕ) (over : Bool) (left read : ℕ) (s : List ℕ) → 0 < k → line_most ≤ left → none ≡ ahead_of read s → rows k over left read s ≡ closing over read (length s)
unfolding turn
rows_none zero over left read s z h e = absurd (let y : ⊥ = omega arith in y)
rows_none (suc k) over left read s z h e =
    rows_turn k over left read s h ∙ ap (λ (a : Ahead). turn over read s a (λ n m. rows k over (left - length (line_of (code_of s) n m)) m (drop n s))) (sym e)

rows_refused : (k : ℕ) (over : Bool) (left read : ℕ) (s : List ℕ) (r : ℕ) → 0 < k → line_most ≤ left → refused r ≡ ahead_of read s → rows k over left read s ≡ closes (refused_line r)
unfolding turn
rows_refused zero over left read s r z h e = absurd (let y : ⊥ = omega arith in y)
rows_refused (suc k) over left read s r z h e =
    rows_turn k over left read s h ∙ ap (λ (a : Ahead). turn over read s a (λ n m. rows k over (left - length (line_of (code_of s) n m)) m (drop n s))) (sym e)

pub rows_packet : (k : ℕ) (over : Bool) (left read : ℕ) (s : List ℕ) (n m : ℕ) → line_most ≤ left → packet n m ≡ ahead_of read s
    → rows (suc k) over left read s ≡ behind (line_of (code_of s) n m) n (rows k over (left - length (line_of (code_of s) n m)) m (drop n s))
unfolding turn
rows_packet k over left read s n m h e =
    rows_turn k over left read s h ∙ ap (λ (a : Ahead). turn over read s a (λ x y. rows k over (left - length (line_of (code_of s) x y)) y (drop x s))) (sym e)

-- one text behind another
behind_behind : (t u : List ℕ) (n m : ℕ) (r : Row) → behind t n (behind u m r) ≡ behind (t ++ u) (n + m) r
behind_behind t u n m r =
    let a : t ++ (u ++ r.text) ≡ t ++ u ++ r.text = sym (append_assoc t u r.text) in
    let b : n + (m + r.used) ≡ n + m + r.used = omega arith in
    λ i. record { text = a i; used = b i; point = r.point; want = r.want }

-- the bytes from used on
pub part_rest : (bytes : List ℕ) (used : ℕ) → take (length bytes - used) (drop used bytes) ≡ drop used bytes
part_rest bytes used = ap (λ (k : ℕ). take k (drop used bytes)) (sym (length-drop used bytes)) ∙ take-length (drop used bytes)

-- ---- THE LOOP: the text stands at the start of the output, and the row of the bytes ahead, behind it, is the row of all.

pub record Inv (over : Bool) (bytes out₀ : List ℕ) (read₀ : ℕ) (out : List ℕ) (read used end : ℕ) : Type 0 where
  pub text : List ℕ
  pub turns : ℕ
  pub enough : length bytes - used < turns
  pub within : used ≤ length bytes
  pub size : length text ≡ end
  pub fits : end ≤ length out₀
  pub long : length out ≡ length out₀
  pub stands : out ≡ put out₀ 0 text
  pub same : row_of over (length out₀) read₀ bytes ≡ behind text used (rows turns over (length out₀ - end) read (drop used bytes))

pub inv_start : (over : Bool) (bytes out : List ℕ) (read : ℕ) → Inv over bytes out read out read 0 0
unfolding row_of
inv_start over bytes out read =
    let r : Row = rows (suc (length bytes)) over (length out) read bytes in
    let z : r.used ≡ 0 + r.used = omega arith in
    let l : length out ≡ length out - 0 = omega arith in
    record {
      text = [];
      turns = suc (length bytes);
      enough = omega arith;
      within = omega arith;
      size = refl;
      fits = omega arith;
      long = refl;
      stands = sym (put_none out 0);
      same = (λ i. record { text = r.text; used = z i; point = r.point; want = r.want }) ∙ ap (λ (n : ℕ). behind [] 0 (rows (suc (length bytes)) over n read bytes)) l;
    }

module _ (over : Bool) (bytes out₀ : List ℕ) (read₀ : ℕ) (out : List ℕ) (read used end : ℕ) (J : Inv over bytes out₀ read₀ out read used end) where
  -- a call that ends with a row
  done : (row : Row) (r : Listed) (out' : List ℕ) → rows J.turns over (length out₀ - end) read (drop used bytes) ≡ row → Lists row used end out r out'
      → Lists (row_of over (length out₀) read₀ bytes) 0 0 out₀ r out'
  done row r out' e L =
      let d : row_of over (length out₀) read₀ bytes ≡ behind J.text used row = J.same ∙ ap (behind J.text used) e in
      let l : length (J.text ++ row.text) ≡ end + length row.text = length-append J.text row.text ∙ ap (λ (n : ℕ). n + length row.text) J.size in
      let f : end + length row.text ≤ length out₀ = omega (arith, L.fits, J.long) in
      let B : Lists (behind J.text used row) 0 0 out₀ r out' =
      record {
        used = omega (arith, L.used);
        written = omega (arith, L.written);
        place = L.place;
        wants = L.wants;
        fits = omega arith;
        stands = put_more out₀ out out' end J.text row.text J.size f J.stands L.stands;
      } in
      subst (λ (x : Row). Lists x 0 0 out₀ r out') (sym d) B

  some : 0 < J.turns
  some = omega (arith, J.enough)

  pub inv_full : (r : Listed) → length out - end < line_most → r.used ≡ used → r.written ≡ end → point_of r.place ≡ after read → want_of r.wants ≡ room → Lists (row_of over (length out₀) read₀ bytes) 0 0 out₀ r out
  inv_full r h a b c d =
      done (waits (after read) room) r out (rows_full J.turns over (length out₀ - end) read (drop used bytes) some (omega (arith, J.long)))
      (record { used = omega arith; written = omega arith; place = c; wants = d; fits = omega (arith, J.fits, J.long); stands = sym (put_none out end) })

  module _ (h : line_most ≤ length out - end) (s : List ℕ) (w : s ≡ drop used bytes) where
    rest : line_most ≤ length out₀ - end
    rest = omega (arith, J.long)

    pub inv_none : (r : Listed) (out' : List ℕ) → none ≡ ahead_of read s → Lists (closing over read (length bytes - used)) used end out r out' → Lists (row_of over (length out₀) read₀ bytes) 0 0 out₀ r out'
    inv_none r out' e L =
        done (closing over read (length bytes - used)) r out'
        (rows_none J.turns over (length out₀ - end) read (drop used bytes) some rest (e ∙ ap (ahead_of read) w) ∙ ap (closing over read) (length-drop used bytes)) L

    pub inv_refused : (n : ℕ) (r : Listed) (out' : List ℕ) → refused n ≡ ahead_of read s → Lists (closes (refused_line n)) used end out r out' → Lists (row_of over (length out₀) read₀ bytes) 0 0 out₀ r out'
    inv_refused n r out' e L =
        done (closes (refused_line n)) r out' (rows_refused J.turns over (length out₀ - end) read (drop used bytes) n some rest (e ∙ ap (ahead_of read) w)) L

    module _ (n m : ℕ) (e : packet n m ≡ ahead_of read s) where
      pub packet_within : (least_packet ≤ n) × (used + n ≤ length bytes)
      packet_within =
          let p = packet_fits read s n m e in
          let l : length s ≡ length bytes - used = ap length w ∙ length-drop used bytes in
          (p.least, omega (arith, p.least, p.most, J.within))

      pub inv_next : (end' : ℕ) (out' : List ℕ) → Wrote line_most out end (line_of (get_or bytes used 0) n m) end' out' → Inv over bytes out₀ read₀ out' m (used + n) end'
      inv_next end' out' W = by_turns J.turns J.enough J.same
        where
          by_turns : (k : ℕ) → length bytes - used < k → row_of over (length out₀) read₀ bytes ≡ behind J.text used (rows k over (length out₀ - end) read (drop used bytes))
              → Inv over bytes out₀ read₀ out' m (used + n) end'
          by_turns zero j q = absurd (let y : ⊥ = omega arith in y)
          by_turns (suc k) j q =
              let line : List ℕ = line_of (get_or bytes used 0) n m in
              let p = packet_within in
              let c : code_of (drop used bytes) ≡ get_or bytes used 0 = get_or-drop used bytes 0 0 ∙ ap (λ (x : ℕ). get_or bytes x 0) (omega arith) in
              let l : length (J.text ++ line) ≡ end' = length-append J.text line ∙ (omega (arith, J.size, W.end)) in
              let g : length out₀ - end - length line ≡ length out₀ - end' = omega (arith, W.end, W.few, J.fits) in
              let d : drop n (drop used bytes) ≡ drop (used + n) bytes = drop-drop n used bytes in
              let f : end + length line ≤ length out₀ = omega (arith, W.few, rest) in
              let u : out' ≡ put out₀ 0 (J.text ++ line) = put_more out₀ out out' end J.text line J.size f J.stands W.stands in
              record {
                text = J.text ++ line;
                turns = k;
                enough = omega (arith, p.0);
                within = p.1;
                size = l;
                fits = omega (arith, W.end);
                long = ap length u ∙ length_put out₀ 0 (J.text ++ line) (omega (arith, W.end));
                stands = u;
                same = q ∙ ap (behind J.text used) (rows_packet k over (length out₀ - end) read (drop used bytes) n m rest (e ∙ ap (ahead_of read) w))
                    ∙ behind_behind J.text (line_of (code_of (drop used bytes)) n m) used n (rows k over (length out₀ - end - length (line_of (code_of (drop used bytes)) n m)) m (drop n (drop used bytes)))
                    ∙ (λ i. behind (J.text ++ line_of (c i) n m) (used + n) (rows k over (length out₀ - end - length (line_of (c i) n m)) m (d i)))
                    ∙ ap (λ (x : ℕ). behind (J.text ++ line) (used + n) (rows k over x m (drop (used + n) bytes))) g;
              }

-- ---- What is used is there.

turn_used : (k : ℕ) (over : Bool) (left read : ℕ) (s : List ℕ) (a : Ahead) → a ≡ ahead_of read s → ((n m : ℕ) → least_packet ≤ n → n ≤ length s → (rows k over (left - length (line_of (code_of s) n m)) m (drop n s)).used ≤ length s - n)
    → (turn over read s a (λ n m. rows k over (left - length (line_of (code_of s) n m)) m (drop n s))).used ≤ length s
unfolding turn closing choose
turn_used k true left read s none e h = omega arith
turn_used k false left read s none e h = omega arith
turn_used k over left read s (refused n) e h = omega arith
turn_used k over left read s (packet n m) e h =
    let p = packet_fits read s n m e in
    omega (arith, p.most, h n m p.least p.most)

rows_used : (k : ℕ) (over : Bool) (left read : ℕ) (s : List ℕ) → (rows k over left read s).used ≤ length s
unfolding rows choose
rows_used zero over left read s = omega arith
rows_used (suc k) over left read s = go (ltb left line_most) (turn_used k over left read s (ahead_of read s) refl (λ n m p q. let l = rows_used k over (left - length (line_of (code_of s) n m)) m (drop n s) in omega (arith, length-drop n s)))
  where
    go : (b : Bool) → (turn over read s (ahead_of read s) (λ n m. rows k over (left - length (line_of (code_of s) n m)) m (drop n s))).used ≤ length s
        → (choose b (waits (after read) room) (turn over read s (ahead_of read s) (λ n m. rows k over (left - length (line_of (code_of s) n m)) m (drop n s)))).used ≤ length s
    go true h = omega arith
    go false h = h

pub call_used : (over : Bool) (left : ℕ) (p : Point) (s : List ℕ) → (call_of over left p s).used ≤ length s
unfolding call_of opening choose row_of
call_used over left start s = go (ltb left line_most)
  where
    go : (b : Bool) → (choose b (waits start room) (record { text = first_line; used = 0; point = after 0; want = room })).used ≤ length s
    go true = omega arith
    go false = omega arith
call_used over left (after read) s = rows_used (suc (length s)) over left read s
call_used over left ended s = omega arith

-- ---- A call

module _ (over : Bool) (place : Stage) (s out : List ℕ) (r : Listed) (out' : List ℕ) where
  pub call_start : place ≡ Stage.Start → Lists (opening (length out)) 0 0 out r out' → Lists (call_of over (length out) (point_of place) s) 0 0 out r out'
  unfolding call_of
  call_start e L = subst (λ (p : Stage). Lists (call_of over (length out) (point_of p) s) 0 0 out r out') (sym e) L

  pub call_lines : (n : SequenceNumber) → place ≡ Stage.After n → Lists (row_of over (length out) n.0 s) 0 0 out r out' → Lists (call_of over (length out) (point_of place) s) 0 0 out r out'
  unfolding call_of
  call_lines n e L = subst (λ (p : Stage). Lists (call_of over (length out) (point_of p) s) 0 0 out r out') (sym e) L

pub call_ended : (over : Bool) (place : Stage) (s out : List ℕ) → place ≡ Stage.Ended
    → Lists (call_of over (length out) (point_of place) s) 0 0 out (record { used = 0; written = 0; place = Stage.Ended; wants = Wants.Nothing }) out
unfolding call_of
call_ended over place s out e =
    subst (λ (p : Stage). Lists (call_of over (length out) (point_of p) s) 0 0 out (record { used = 0; written = 0; place = Stage.Ended; wants = Wants.Nothing }) out) (sym e)
    (record { used = refl; written = refl; place = refl; wants = refl; fits = omega arith; stands = sym (put_none out 0) })

module _ (over : Bool) (place : Stage) (buf : List ℕ) (held : ℕ) (out : List ℕ) (r : Listed) (out' : List ℕ) (h : held ≤ length buf) (L : Lists (call_of over (length out) (point_of place) (take held buf)) 0 0 out r out') where
  pub list_used : r.used ≤ held
  list_used = omega (arith, L.used, call_used over (length out) (point_of place) (take held buf), length-take-le held buf h)

  -- what is not used is held at the start of the buffer
  pub list_turns : (buf' : List ℕ) → buf' ≡ put buf 0 (cut r.used (held - r.used) buf)
      → Turns (call_of over (length out) (point_of place) (take held buf)) buf held out (record { held = held - r.used; written = r.written; place = r.place; wants = r.wants }) buf' out'
  unfolding cut
  list_turns buf' b =
      let row : Row = call_of over (length out) (point_of place) (take held buf) in
      let l : length (take held buf) ≡ held = length-take-le held buf h in
      let e : r.used ≡ row.used = omega (arith, L.used) in
      let u : r.used ≤ held = list_used in
      let a : r.used + (held - r.used) ≡ held = omega arith in
      let d : take (held - r.used) (drop r.used buf) ≡ drop row.used (take held buf) =
      take_drop r.used (held - r.used) buf ∙ (λ i. drop (e i) (take (a i) buf)) in
      record {
        kept = omega (arith, length-drop row.used (take held buf));
        within = omega arith;
        written = omega (arith, L.written);
        fits = omega (arith, L.written, L.fits, ap length L.stands, length_put out 0 row.text L.fits);
        place = L.place;
        wants = L.wants;
        holds = b ∙ ap (put buf 0) d;
        stands = L.stands;
      }
