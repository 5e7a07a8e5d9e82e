-- How a turn comes out, and what the loop over a run of bytes keeps. Assumes nothing.
use Rattle.std.specs.Prelude.{◌≡◌, ℕ, ◌+◌, ◌-◌, ◌≤◌, ◌<◌, length, take, drop, get_or, Result, Ok, Err}
use Rattle.std.proofs.Math.Path.{refl, sym, ap}
use Rattle.std.proofs.Common.{◌∙◌, subst, arith, length-append, length-drop, drop_of_length-le, get_or-take, get_or-drop, drop-drop}
use mathlib.Core.List.{List, [], ◌∷◌, ◌++◌, append-nil}
use Rattle.std.proofs.Math.Seq.{take-length}
use Rattle.refusal.specs.Answer.{Answer, gives, refuses, gives_same}
use Rattle.refusal.specs.Numbers.{number_of}
use Rattle.refusal.specs.declared.Refusal.{Refusal}
use Rattle.sequence.specs.declared.SequenceNumber.{SequenceNumber}
use Rattle.packet.specs.Packet.{least_packet}
use Rattle.packet.specs.Class.{says_class}
use Rattle.packet.specs.declared.Class.{Class}
use Rattle.packet_reader.specs.Frame.{cut_packets}
use Rattle.packet_reader.specs.CutLaws.{aim_least}
use Rattle.packet_reader.specs.Front.{Front, front_of, says_begins, tells_whole, packets_none}
use Rattle.packet_reader.specs.declared.Begins.{Begins}
use Rattle.intake.specs.Exact.{enqueue_exact, EnqueueStep}
use Rattle.intake.specs.Theorems.{enqueue_sound}
use Rattle.model.specs.Model.{Filing}
use Rattle.model.specs.Reading.{Rooms, rooms}
use Rattle.model.specs.Promise.{Done, answer_of, rooms_of, same}
use Rattle.model.specs.Says.{says_enqueued}
use Rattle.model.specs.Sound.{Sound}
use Rattle.model.specs.Batch.{Turn, goes, stops, onward, Site, site, exact_many}
use Rattle.model.specs.BatchLaws.{row_ends}
use Rattle.model.specs.Feed.{Stopped, ended, refused, Took, bytes_taken, exact_took, shown_fed, says_halt}
use Rattle.model.specs.declared.Connection.{Connection}
use Rattle.model.specs.declared.Place.{Place}
use Rattle.model.specs.declared.Enqueued.{Enqueued}
use Rattle.model.specs.declared.Halt.{Halt}
use Rattle.batch.specs.declared.feed.Turned.{Turned}
use Rattle.batch.specs.Feed.{stop_at, feeding, packet_turn, row, feed_exact, FeedStep, turn_by, on, halted, shown_turn, left_by, says_turned, TurnIs, PacketTurn, FrontTurn}
use Rattle.batch.specs.FeedLaws.{Goes, turn_goes, turn_stops, stop_nothing}

-- ---- a packet

pub took_on : (n : ℕ) (e : Answer (Done Filing)) (r r' : Rooms) (v : Filing) (c : Connection) → gives (v, c) ≡ answer_of same e → r' ≡ rooms_of e r → TurnIs (exact_took n e) r (Ok (record { bytes = n; connection = c })) r'
unfolding answer_of rooms_of exact_took shown_turn left_by
took_on n (gives d) r r' v c a l = record { answers = ap (λ (x : Filing × Connection). on n x.1) (gives_same a); leaves = l }
took_on n (refuses k) r r' v c a l = absurd (let z : ◌≡◌ {A = ℕ} 0 1 = cc in omega arith)

took_off : (n : ℕ) (e : Answer (Done Filing)) (r r' : Rooms) (x : Refusal) → refuses (number_of x) ≡ answer_of same e → r' ≡ rooms_of e r → TurnIs (exact_took n e) r (Err (Halt.Refused x)) r'
unfolding answer_of rooms_of exact_took shown_turn left_by
took_off n (gives d) r r' x a l = absurd (let z : ◌≡◌ {A = ℕ} 0 1 = cc in omega arith)
took_off n (refuses k) r r' x a l = let z : number_of x ≡ k = cc in record { answers = ap (λ (m : ℕ). halted (refused m)) z; leaves = l }

module _ (c : Connection) (q s f p : List ℕ) (x : Result Enqueued Refusal) (s' f' : List ℕ) (E : EnqueueStep c q s f p x s' f') where
  pub packet_on : (place : Place) (n : SequenceNumber) (k : Class) (next : Connection) → x ≡ Ok (record { place = place; number = n; class = k; connection = next }) → PacketTurn c q s f p (Ok (record { bytes = (length p); connection = next })) s' f'
  packet_on place n k next g =
      took_on (length p) (enqueue_exact c (rooms q s f) p) (rooms q s f) (rooms q s' f') _ next (ap says_enqueued (sym g) ∙ E.exact.answers) E.exact.leaves

  pub packet_halted : (r : Refusal) → x ≡ Err r → PacketTurn c q s f p (Err (Halt.Refused r)) s' f'
  packet_halted r g =
      took_off (length p) (enqueue_exact c (rooms q s f) p) (rooms q s f) (rooms q s' f') r (ap says_enqueued (sym g) ∙ E.exact.answers) E.exact.leaves

-- ---- the bytes ahead

module _ (o : ℕ) (c : Connection) (q s f b : List ℕ) (g : Begins) (e : says_begins g ≡ front_of o b) where
  -- what they begin with decides the turn
  front_by : (x : Begins) → g ≡ x → (a : Result Turned Halt) (s' f' : List ℕ) → TurnIs (turn_by (site c (rooms q s f)) b (says_begins x)) (rooms q s f) a (rooms q s' f') → FrontTurn o c q s f b a s' f'
  front_by x h a s' f' t =
      subst (λ (y : Front). TurnIs (turn_by (site c (rooms q s f)) b y) (rooms q s f) a (rooms q s' f')) (ap says_begins (sym h) ∙ e) t

  pub front_end : g ≡ Begins.Nothing → FrontTurn o c q s f b (Err Halt.End) s f
  unfolding turn_by shown_turn left_by
  front_end h = front_by Begins.Nothing h (Err Halt.End) s f (record { answers = refl; leaves = refl })

  pub front_partial : g ≡ Begins.Part → FrontTurn o c q s f b (Err Halt.Part) s f
  unfolding turn_by shown_turn left_by
  front_partial h = front_by Begins.Part h (Err Halt.Part) s f (record { answers = refl; leaves = refl })

  pub front_over : g ≡ Begins.Long → FrontTurn o c q s f b (Err (Halt.Refused Refusal.LongPacket)) s f
  unfolding turn_by shown_turn left_by
  front_over h = front_by Begins.Long h (Err (Halt.Refused Refusal.LongPacket)) s f (record { answers = refl; leaves = refl })

  pub front_packet : (n : ℕ) (k : Class) → g ≡ Begins.Whole n k → (a : Result Turned Halt) (s' f' : List ℕ) → PacketTurn c q s f (take n b) a s' f' → FrontTurn o c q s f b a s' f'
  unfolding turn_by
  front_packet n k h a s' f' t = front_by (Begins.Whole n k) h a s' f' t

pub front_fits : (o : ℕ) (b : List ℕ) (g : Begins) → says_begins g ≡ front_of o b → (n : ℕ) (k : Class) → g ≡ Begins.Whole n k → n ≤ length b
front_fits o b g e n k h = (tells_whole o b n (says_class k) (ap says_begins (sym h) ∙ e)).fits

-- the bytes from at on
ahead : (bytes : List ℕ) (at : ℕ) → take (length bytes - at) (drop at bytes) ≡ drop at bytes
ahead bytes at = ap (λ (k : ℕ). take k (drop at bytes)) (sym (length-drop at bytes)) ∙ take-length (drop at bytes)

-- ---- what a turn tells

on_goes : (t : Turn Took Stopped Site) (r : Rooms) (a : Result Turned Halt) (r' : Rooms) → TurnIs t r a r' → (n : ℕ) (next : Connection) → a ≡ Ok (record { bytes = n; connection = next }) → (v : Took) × (v.bytes ≡ n) × (goes v (site next r') ≡ t)
unfolding shown_turn left_by
on_goes (goes v s) r a r' T n next e =
    let z : on n next ≡ on v.bytes s.state = ap says_turned (sym e) ∙ T.answers in
    let x : v.bytes ≡ n = cc in
    let y : next ≡ s.state = cc in
    (v, x, λ i. goes v (site (y i) (T.leaves i)))
on_goes (stops w) r a r' T n next e =
    let z : on n next ≡ halted w = ap says_turned (sym e) ∙ T.answers in
    absurd (let y : ◌≡◌ {A = ℕ} 0 1 = cc in omega arith)

halted_stops : (t : Turn Took Stopped Site) (r : Rooms) (a : Result Turned Halt) (r' : Rooms) → TurnIs t r a r' → (h : Halt) → a ≡ Err h → (stops (says_halt h) ≡ t) × (r' ≡ r)
unfolding shown_turn left_by
halted_stops (goes v s) r a r' T h e =
    let z : halted (says_halt h) ≡ on v.bytes s.state = ap says_turned (sym e) ∙ T.answers in
    absurd (let y : ◌≡◌ {A = ℕ} 0 1 = cc in omega arith)
halted_stops (stops w) r a r' T h e =
    let z : halted (says_halt h) ≡ halted w = ap says_turned (sym e) ∙ T.answers in
    let x : says_halt h ≡ w = cc in
    (ap stops x, T.leaves)

-- ---- THE LOOP: the packets given were taken, and the row of the bytes ahead is what is left of the whole.

pub record Inv (o : ℕ) (c₀ : Connection) (q s₀ f₀ bytes : List ℕ) (c : Connection) (s f : List ℕ) (at packets : ℕ) : Type 0 where
  pub given : List Took
  pub sound : Sound c (rooms q s f)
  pub within : at ≤ length bytes
  pub few : packets ≤ at
  pub store_long : length s ≡ length s₀
  pub slots_long : length f ≡ length f₀
  pub taken : bytes_taken given ≡ at
  pub counted : length given ≡ packets
  pub same : row o (site c₀ (rooms q s₀ f₀)) (cut_packets o bytes) ≡ onward given (row o (site c (rooms q s f)) (cut_packets o (drop at bytes)))

pub inv_start : (o : ℕ) (c : Connection) (q s f bytes : List ℕ) → Sound c (rooms q s f) → Inv o c q s f bytes c s f 0 0
unfolding bytes_taken
inv_start o c q s f bytes S =
    record { given = []; sound = S; within = omega arith; few = omega arith; store_long = refl; slots_long = refl; taken = refl; counted = refl; same = refl }

bytes_more : (vs : List Took) (v : Took) → bytes_taken (vs ++ (v ∷ [])) ≡ bytes_taken vs + v.bytes
unfolding bytes_taken
bytes_more [] v = omega arith
bytes_more (x ∷ vs) v = let h : bytes_taken (vs ++ (v ∷ [])) ≡ bytes_taken vs + v.bytes = bytes_more vs v in omega arith

module _ (c₀ : Connection) (q s₀ f₀ bytes : List ℕ) where
  -- the row is known
  done : (vs : List Took) (h : Halt) (w : Stopped) (c : Connection) (s f : List ℕ) (at packets : ℕ) → says_halt h ≡ w → bytes_taken vs ≡ at → length vs ≡ packets
      → row c₀.order (site c₀ (rooms q s₀ f₀)) (cut_packets c₀.order bytes) ≡ onward vs (record { values = []; stopped = w; end = site c (rooms q s f) })
      → FeedStep c₀ q s₀ f₀ bytes (Ok (record { bytes = at; packets = packets; halt = h; connection = c })) s f
  unfolding feed_exact answer_of rooms_of
  done vs h w c s f at packets e t k z =
      let v : vs ++ [] ≡ vs = append-nil vs in
      let D : feed_exact c₀ (rooms q s₀ f₀) bytes ≡ gives (record { value = record { packets = vs; stopped = w }; state = c; left = rooms q s f }) =
      ap (λ y. gives (exact_many feeding y)) z ∙ (λ i. gives (record { value = record { packets = v i; stopped = w }; state = c; left = rooms q s f })) in
      record {
        exact = record {
          answers = (λ i. gives (record { bytes = sym t i; packets = sym k i; stopped = e i }, c)) ∙ ap (answer_of shown_fed) (sym D);
          leaves = ap (λ y. rooms_of y (rooms q s₀ f₀)) (sym D);
        };
      }

  module _ (c : Connection) (s f : List ℕ) (at packets : ℕ) (I : Inv c₀.order c₀ q s₀ f₀ bytes c s f at packets) where
    pub inv_end : length bytes ≤ at → FeedStep c₀ q s₀ f₀ bytes (Ok (record { bytes = at; packets = packets; halt = Halt.End; connection = c })) s f
    inv_end h =
        let o : ℕ = c₀.order in
        let e : drop at bytes ≡ [] = drop_of_length-le bytes h in
        done I.given Halt.End ended c s f at packets refl I.taken I.counted
        (I.same
        ∙ ap (λ (b : List ℕ). onward I.given (row o (site c (rooms q s f)) (cut_packets o b))) e
        ∙ ap (λ y. onward I.given (row o (site c (rooms q s f)) y)) (packets_none o [] (omega (arith, aim_least o [] 0)))
        ∙ row_ends packet_turn (stop_at o []) I.given (site c (rooms q s f))
        ∙ ap (λ (w : Stopped). onward I.given (record { values = []; stopped = w; end = site c (rooms q s f) })) (stop_nothing o [] refl))

    abbrev b : List ℕ
    b = take (length bytes - at) (drop at bytes)

    B : b ≡ drop at bytes
    B = ahead bytes at

    module _ (a : Result Turned Halt) (s' f' : List ℕ) (T : FrontTurn c₀.order c q s f b a s' f') where
      pub inv_stop : (h : Halt) → a ≡ Err h → FeedStep c₀ q s₀ f₀ bytes (Ok (record { bytes = at; packets = packets; halt = h; connection = c })) s' f'
      inv_stop h e =
          let o : ℕ = c₀.order in
          let z = halted_stops _ _ a _ T h e in
          done I.given h (says_halt h) c s' f' at packets refl I.taken I.counted
          (I.same
          ∙ ap (λ (y : List ℕ). onward I.given (row o (site c (rooms q s f)) (cut_packets o y))) (sym B)
          ∙ turn_stops o I.given (site c (rooms q s f)) b (says_halt h) z.0
          ∙ ap (λ (r : Rooms). onward I.given (record { values = []; stopped = says_halt h; end = site c r })) (sym z.1))

      module _ (n : ℕ) (next : Connection) (e : a ≡ Ok (record { bytes = n; connection = next })) where
        went : (v : Took) × (v.bytes ≡ n) × Goes c₀.order I.given (site c (rooms q s f)) b v (site next (rooms q s' f'))
        went =
            let z = on_goes _ _ a _ T n next e in
            (z.0, z.1, turn_goes c₀.order I.given (site c (rooms q s f)) b z.0 (site next (rooms q s' f')) z.2)

        pub inv_least : least_packet ≤ n
        inv_least = omega (arith, went.1, went.2.least)

        pub inv_next : ((i : ℕ) → get_or bytes i 0 < 256) → length s' ≡ length s → length f' ≡ length f → Inv c₀.order c₀ q s₀ f₀ bytes next s' f' (at + n) (packets + 1)
        inv_next byte ls lf =
            let o : ℕ = c₀.order in
            let v : Took = went.0 in
            let k : v.bytes ≡ n = went.1 in
            let G = went.2 in
            let y : get_or (take v.bytes b) 1 0 < 256 =
            subst (λ (m : ℕ). m < 256) (sym (get_or-take v.bytes b 1 0 (omega (arith, G.least)) ∙ ap (λ (x : List ℕ). get_or x 1 0) B ∙ get_or-drop at bytes 1 0)) (byte (at + 1)) in
            let d : drop v.bytes b ≡ drop (at + n) bytes = (λ i. drop (k i) (B i)) ∙ drop-drop n at bytes in
            record {
              given = I.given ++ (v ∷ []);
              sound = enqueue_sound c (rooms q s f) I.sound (take v.bytes b) y _ G.exact;
              within = omega (arith, went.1, went.2.fits, ap length B, length-drop at bytes, I.within);
              few = omega (arith, I.few, inv_least);
              store_long = ls ∙ I.store_long;
              slots_long = lf ∙ I.slots_long;
              taken = bytes_more I.given v ∙ (λ i. I.taken i + k i);
              counted = omega (arith, length-append I.given (v ∷ []), I.counted);
              same =
                  I.same
                  ∙ ap (λ (x : List ℕ). onward I.given (row o (site c (rooms q s f)) (cut_packets o x))) (sym B)
                  ∙ G.ahead
                  ∙ ap (λ (x : List ℕ). onward (I.given ++ (v ∷ [])) (row o (site next (rooms q s' f')) (cut_packets o x))) d;
            }
