-- Laws of packets that are taken in one after the other: a turn of the loop is the next of the row. Assumes nothing.
use Rattle.std.specs.Prelude.{◌≡◌, Bool, true, false, List, [], ◌∷◌, ◌++◌, ℕ, zero, suc, ◌+◌, ◌≤◌, ◌<◌, ltb, length, take, drop, get_or}
use Rattle.std.proofs.Math.Path.{refl, sym, ap, subst}
use Rattle.std.proofs.Common.{◌∙◌, arith, length-take-le, get_or-take, get_or-drop, ltb-true, ltb-false, lt-ltb, le-ltb, eq-eqb, ne_eqb}
use Rattle.octets.specs.Logic.{choose}
use Rattle.refusal.specs.Answer.{Answer, gives, refuses, refuse, pass, gives_same}
use Rattle.packet.specs.Packet.{least_packet, most_packet, PacketClass}
use Rattle.packet_reader.specs.Frame.{aim, Cut, cons, cuts, cut_packets}
use Rattle.packet_reader.specs.CutLaws.{aim_least}
use Rattle.packet_reader.specs.Reader.{most_buffer}
use Rattle.packet_reader.specs.Front.{Front, nothing, part, long, whole, front_of, Part, Long, Whole, tells_nothing, tells_part, tells_long, tells_whole, packets_none, packets_next}
use Rattle.filing.specs.Plan.{plan_of}
use Rattle.intake.specs.Exact.{enqueue_exact}
use Rattle.intake.specs.Theorems.{enqueue_model, enqueue_sound}
use Rattle.model.specs.Model.{Filing, enqueue_packet}
use Rattle.model.specs.Reading.{Rooms, reads}
use Rattle.model.specs.Promise.{Done, model_of}
use Rattle.model.specs.Sound.{Sound}
use Rattle.model.specs.Batch.{Turn, goes, stops, onward, Site, site, read_site, read_turn, Each}
use Rattle.model.specs.BatchLaws.{goes_one, row_model, row_sound, row_goes, row_stops, row_ends}
use Rattle.model.specs.Feed.{Stopped, ended, partial, refused, Took, Feeding, model_took, exact_took}
use Rattle.model.specs.declared.Connection.{Connection}
use Rattle.batch.specs.Feed.{stop_at, feeding, enqueue_packets, packet_turn, row, feed_exact, turn_by}

-- ---- one packet

-- A packet over 65,536 bytes is refused by 2.
enqueue_long : (c : Connection) (r : Rooms) (p : List ℕ) → most_buffer < length p → enqueue_exact c r p ≡ refuses 2
unfolding enqueue_exact plan_of refuse pass
enqueue_long c r p h = simp (le-ltb (length p) least_packet (omega arith), lt-ltb most_packet (length p) h)

-- what a turn that goes on tells
pub took_goes : (n : ℕ) (e : Answer (Done Filing)) (v : Took) (s : Site) → goes v s ≡ exact_took n e → (v.bytes ≡ n) × (gives (record { value = v.filing; state = s.state; left = s.left }) ≡ e)
unfolding exact_took
took_goes n (gives d) v s q =
    let z = goes_one q in
    (ap (λ (t : Took). t.bytes) z.0, λ k. gives (record { value = (z.0 k).filing; state = (z.1 k).state; left = (z.1 k).left }))
took_goes n (refuses k) v s q = absurd (let z : ◌≡◌ {A = ℕ} 0 1 = cc in omega arith)

took_reads : (n : ℕ) (e : Answer (Done Filing)) → read_turn read_site (exact_took n e) ≡ model_took n (model_of e)
unfolding read_turn exact_took model_took model_of
took_reads n (gives d) = refl
took_reads n (refuses k) = refl

took_refused : (n k : ℕ) (e : Answer (Done Filing)) → e ≡ refuses k → stops (refused k) ≡ exact_took n e
unfolding exact_took
took_refused n k e q = ap (exact_took n) (sym q)

-- ---- the bytes ahead

-- what stops the row where no whole packet is there
pub stop_nothing : (o : ℕ) (b : List ℕ) → length b ≡ 0 → stop_at o b ≡ ended
unfolding stop_at choose
stop_nothing o b h = simp (eq-eqb (length b) 0 h)

stop_part : (o : ℕ) (b : List ℕ) → Part o b → stop_at o b ≡ partial
unfolding stop_at choose
stop_part o b p =
    let z : length b ≡ 0 → ⊥ = λ e. omega (arith, p.some) in
    simp (ne_eqb (length b) 0 z, le-ltb most_buffer (aim o b (length b)) p.most)

stop_long : (o : ℕ) (b : List ℕ) → Long o b → stop_at o b ≡ refused 2
unfolding stop_at choose
stop_long o b p =
    let z : length b ≡ 0 → ⊥ = λ e. omega (arith, p.some) in
    simp (ne_eqb (length b) 0 z, lt-ltb most_buffer (aim o b (length b)) p.over)

cut_whole : (o : ℕ) (b : List ℕ) (n : ℕ) {k : PacketClass} → Whole o b n k → cut_packets o b ≡ cons (take n b) (cut_packets o (drop n b))
cut_whole o b n w =
    packets_next o b (omega (arith, w.target, w.fits)) ∙ ap (λ (k : ℕ). cons (take k b) (cut_packets o (drop k b))) (sym w.target)

-- what a turn that goes on leaves of the row
pub record Goes (o : ℕ) (vs : List Took) (s : Site) (b : List ℕ) (v : Took) (s' : Site) : Type 0 where
  pub least : least_packet ≤ v.bytes
  pub fits : v.bytes ≤ length b
  pub exact : gives (record { value = v.filing; state = s'.state; left = s'.left }) ≡ enqueue_exact s.state s.left (take v.bytes b)
  pub ahead : onward vs (row o s (cut_packets o b)) ≡ onward (vs ++ (v ∷ [])) (row o s' (cut_packets o (drop v.bytes b)))

no_goes : {A W S B : Type 0} {a : A} {s : S} {w : W} → ◌≡◌ {A = Turn A W S} (goes a s) (stops w) → B
no_goes e = absurd (let z : ◌≡◌ {A = ℕ} 0 1 = cc in omega arith)

module _ (o : ℕ) (vs : List Took) (s : Site) (b : List ℕ) where
  goes_whole : (n : ℕ) {k : PacketClass} → Whole o b n k → (v : Took) (s' : Site) → goes v s' ≡ packet_turn s (take n b) → Goes o vs s b v s'
  goes_whole n w v s' q =
      let l : length (take n b) ≡ n = length-take-le n b w.fits in
      let t = took_goes (length (take n b)) (enqueue_exact s.state s.left (take n b)) v s' q in
      let e : v.bytes ≡ n = t.0 ∙ l in
      record {
        least = omega (arith, w.least);
        fits = omega (arith, w.fits);
        exact = t.1 ∙ ap (λ (k : ℕ). enqueue_exact s.state s.left (take k b)) (sym e);
        ahead =
            ap (λ (c : Cut). onward vs (row o s c)) (cut_whole o b n w)
            ∙ row_goes packet_turn (stop_at o (cut_packets o (drop n b)).left) vs s (take n b) (cut_packets o (drop n b)).packets v s' q
            ∙ ap (λ (k : ℕ). onward (vs ++ (v ∷ [])) (row o s' (cut_packets o (drop k b)))) (sym e);
      }

  pub turn_goes : (v : Took) (s' : Site) → goes v s' ≡ turn_by s b (front_of o b) → Goes o vs s b v s'
  unfolding turn_by
  turn_goes v s' q = go (front_of o b) refl q
    where
      go : (x : Front) → x ≡ front_of o b → goes v s' ≡ turn_by s b x → Goes o vs s b v s'
      go nothing e h = no_goes h
      go part e h = no_goes h
      go long e h = no_goes h
      go (whole n k) e h = goes_whole n (tells_whole o b n k e) v s' h

  -- no whole packet is there
  stops_none : (w : Stopped) → length b < aim o b (length b) → stop_at o b ≡ w → onward vs (row o s (cut_packets o b)) ≡ onward vs (record { values = []; stopped = w; end = s })
  stops_none w h e =
      ap (λ (c : Cut). onward vs (row o s c)) (packets_none o b h)
      ∙ row_ends packet_turn (stop_at o b) vs s
      ∙ ap (λ (x : Stopped). onward vs (record { values = []; stopped = x; end = s })) e

  -- the packet ahead stops it
  stops_there : (w : Stopped) (n : ℕ) → aim o b (length b) ≤ length b → n ≡ aim o b (length b) → stops w ≡ packet_turn s (take n b) → onward vs (row o s (cut_packets o b)) ≡ onward vs (record { values = []; stopped = w; end = s })
  stops_there w n h e q =
      ap (λ (c : Cut). onward vs (row o s c)) (packets_next o b h ∙ ap (λ (k : ℕ). cons (take k b) (cut_packets o (drop k b))) (sym e))
      ∙ row_stops packet_turn (stop_at o (cut_packets o (drop n b)).left) vs s (take n b) (cut_packets o (drop n b)).packets w q

  stops_long : Long o b → onward vs (row o s (cut_packets o b)) ≡ onward vs (record { values = []; stopped = refused 2; end = s })
  stops_long p = go (ltb (length b) (aim o b (length b))) refl
    where
      go : (x : Bool) → ltb (length b) (aim o b (length b)) ≡ x → onward vs (row o s (cut_packets o b)) ≡ onward vs (record { values = []; stopped = refused 2; end = s })
      go true e = stops_none (refused 2) (ltb-true _ _ e) (stop_long o b p)
      go false e =
          let f : aim o b (length b) ≤ length b = ltb-false _ _ e in
          let l : length (take (aim o b (length b)) b) ≡ aim o b (length b) = length-take-le (aim o b (length b)) b f in
          stops_there (refused 2) (aim o b (length b)) f refl
          (took_refused (length (take (aim o b (length b)) b)) 2 _ (enqueue_long s.state s.left (take (aim o b (length b)) b) (omega (arith, p.over, l))))

  stops_one : {w x : Stopped} → ◌≡◌ {A = Turn Took Stopped Site} (stops w) (stops x) → w ≡ x
  stops_one e = cc

  pub turn_stops : (w : Stopped) → stops w ≡ turn_by s b (front_of o b) → onward vs (row o s (cut_packets o b)) ≡ onward vs (record { values = []; stopped = w; end = s })
  unfolding turn_by
  turn_stops w q = go (front_of o b) refl q
    where
      go : (x : Front) → x ≡ front_of o b → stops w ≡ turn_by s b x → onward vs (row o s (cut_packets o b)) ≡ onward vs (record { values = []; stopped = w; end = s })
      go nothing e h = stops_none w (omega (arith, tells_nothing o b e, aim_least o b (length b))) (stop_nothing o b (tells_nothing o b e) ∙ sym (stops_one h))
      go part e h = stops_none w (tells_part o b e).lacks (stop_part o b (tells_part o b e) ∙ sym (stops_one h))
      go long e h = stops_long (tells_long o b e) ∙ ap (λ (x : Stopped). onward vs (record { values = []; stopped = x; end = s })) (sym (stops_one h))
      go (whole n k) e h = let W = tells_whole o b n k e in stops_there w n (omega (arith, W.target, W.fits)) W.target h

-- ---- THE MODEL'S ROW

-- the byte 1 of a packet is one
abbrev pub Byte : List ℕ → Type 0
Byte p = get_or p 1 0 < 256

bytes_each : (o n : ℕ) (b : List ℕ) → ((i : ℕ) → get_or b i 0 < 256) → Each Byte (cuts o n b).packets
unfolding cuts choose
bytes_each o zero b h = tt
bytes_each o (suc n) b h =
    go (ltb (length b) (aim o b (length b)))
    (bytes_each o n (drop (aim o b (length b)) b) (λ i. subst (λ (k : ℕ). k < 256) (sym (get_or-drop (aim o b (length b)) b i 0)) (h (aim o b (length b) + i))))
  where
    go : (x : Bool) → Each Byte (cuts o n (drop (aim o b (length b)) b)).packets
        → Each Byte (choose x (record { packets = []; left = b }) (cons (take (aim o b (length b)) b) (cuts o n (drop (aim o b (length b)) b)))).packets
    go true r = tt
    go false r =
        (subst (λ (k : ℕ). k < 256) (sym (get_or-take (aim o b (length b)) b 1 0 (omega (arith, aim_least o b (length b))))) (h 1), r)

pub packets_bytes : (o : ℕ) (b : List ℕ) → ((i : ℕ) → get_or b i 0 < 256) → Each Byte (cut_packets o b).packets
unfolding cut_packets
packets_bytes o b h = bytes_each o (length b) b h

turn_model : (c : Connection) (r : Rooms) → Sound c r → (p : List ℕ) → Byte p → read_turn read_site (packet_turn (site c r) p) ≡ model_took (length p) (enqueue_packet (reads c r) p)
turn_model c r S p h = took_reads (length p) (enqueue_exact c r p) ∙ ap (model_took (length p)) (enqueue_model c r S p h)

turn_sound : (c : Connection) (r : Rooms) → Sound c r → (p : List ℕ) → Byte p → (v : Took) (s : Site) → goes v s ≡ packet_turn (site c r) p → Sound s.state s.left
turn_sound c r S p h v s q = enqueue_sound c r S p h _ (took_goes (length p) (enqueue_exact c r p) v s q).1

module _ (c : Connection) (r : Rooms) (S : Sound c r) (bytes : List ℕ) (h : (i : ℕ) → get_or bytes i 0 < 256) where
  -- TAKING THE PACKETS OF A RUN IN is the model's,
  pub feed_model : model_of (feed_exact c r bytes) ≡ enqueue_packets (reads c r) bytes
  unfolding feed_exact enqueue_packets reads
  feed_model =
      row_model packet_turn (λ m p. model_took (length p) (enqueue_packet m p)) Byte turn_model turn_sound feeding (stop_at c.order (cut_packets c.order bytes).left) c r S (cut_packets c.order bytes).packets
      (packets_bytes c.order bytes h)

  -- and the state that it leaves is sound.
  pub feed_sound : (d : Done Feeding) → gives d ≡ feed_exact c r bytes → Sound d.state d.left
  unfolding feed_exact
  feed_sound d e =
      subst (λ (y : Done Feeding). Sound y.state y.left) (gives_same (sym e))
      (row_sound packet_turn (λ m p. model_took (length p) (enqueue_packet m p)) Byte turn_model turn_sound feeding (stop_at c.order (cut_packets c.order bytes).left) c r S (cut_packets c.order bytes).packets
      (packets_bytes c.order bytes h))
