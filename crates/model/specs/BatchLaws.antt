-- THE LAW of rows: a row of exact steps is, as it is read, the model's row, and leaves a sound state. Assumes nothing.
use Rattle.std.proofs.Math.Path.{◌≡◌, refl, sym, ap}
use Rattle.std.proofs.Common.{◌∙◌, arith}
use mathlib.Core.List.{List, [], ◌∷◌, ◌++◌, append_assoc}
use Rattle.std.specs.Prelude.{ℕ}
use Rattle.refusal.specs.Answer.{Answer, gives, refuses, gives_same}
use Rattle.model.specs.Client.{Client}
use Rattle.model.specs.Reading.{Rooms, reads}
use Rattle.model.specs.Promise.{Done, Exact, answer_of, rooms_of, model_of}
use Rattle.model.specs.Sound.{Sound}
use Rattle.model.specs.Batch.{Turn, goes, stops, onward, on_turn, many, model_turn, Site, site, read_site, exact_turn, model_many, exact_many, read_turn, read_many, Each, notes}
use Rattle.model.specs.declared.Connection.{Connection}

-- ---- a turn

pub goes_one : {A W S : Type 0} {a b : A} {s t : S} → ◌≡◌ {A = Turn A W S} (goes a s) (goes b t) → (a ≡ b) × (s ≡ t)
goes_one e = (cc, cc)

-- an exact outcome that is the model's, as a turn
pub turn_reads : {A : Type 0} (e : Answer (Done A)) → read_turn read_site (exact_turn e) ≡ model_turn (model_of e)
unfolding read_turn exact_turn model_turn model_of
turn_reads (gives d) = refl
turn_reads (refuses n) = refl

-- a turn that goes on is something given
pub turn_gives : {A : Type 0} (e : Answer (Done A)) (a : A) (s : Site) → goes a s ≡ exact_turn e → gives (record { value = a; state = s.state; left = s.left }) ≡ e
unfolding exact_turn
turn_gives (gives d) a s q =
    let z = goes_one q in
    (λ k. gives (record { value = z.0 k; state = (z.1 k).state; left = (z.1 k).left }))
turn_gives (refuses n) a s q = absurd (let z : ◌≡◌ {A = ℕ} 0 1 = cc in omega arith)

-- ---- an exact outcome whose answer is known

module _ {A B : Type 0} (f : A → B) (e : Answer (Done A)) (r r' : Rooms) where
  -- something was given, and f shows it,
  pub exact_gave : (y : B) (c : Connection) → Exact f e r (gives (y, c)) r' → (d : Done A) × (gives d ≡ e) × (y ≡ f d.value) × (c ≡ d.state) × (r' ≡ d.left)
  unfolding answer_of rooms_of
  exact_gave y c x = go e refl x.answers x.leaves
    where
      go : (k : Answer (Done A)) → k ≡ e → gives (y, c) ≡ answer_of f k → r' ≡ rooms_of k r → (d : Done A) × (gives d ≡ e) × (y ≡ f d.value) × (c ≡ d.state) × (r' ≡ d.left)
      go (gives d) i a l =
          let z : ◌≡◌ {A = B × Connection} (y, c) (f d.value, d.state) = gives_same a in
          (d, i, ap (λ (v : B × Connection). v.0) z, ap (λ (v : B × Connection). v.1) z, l)
      go (refuses n) i a l = absurd (let z : ◌≡◌ {A = ℕ} 0 1 = cc in omega arith)

  -- or it was refused, and the rooms are as found.
  pub exact_stayed : (n : ℕ) → Exact f e r (refuses n) r' → (refuses n ≡ e) × (r' ≡ r)
  unfolding answer_of rooms_of
  exact_stayed n x = go e refl x.answers x.leaves
    where
      go : (k : Answer (Done A)) → k ≡ e → refuses n ≡ answer_of f k → r' ≡ rooms_of k r → (refuses n ≡ e) × (r' ≡ r)
      go (gives d) i a l = absurd (let z : ◌≡◌ {A = ℕ} 0 1 = cc in omega arith)
      go (refuses k) i a l = (let z : n ≡ k = cc in ap refuses z ∙ i, l)

-- ---- THE LAW

-- Where each turn e from a good state is, as it is read, the turn m, and leaves a good state,
module _ {A W X S T : Type 0} (e : S → X → Turn A W S) (m : T → X → Turn A W T) (read : S → T) (Good : S → Type 0) (Fit : X → Type 0)
    (law : (s : S) → Good s → (x : X) → Fit x → read_turn read (e s x) ≡ m (read s) x)
    (keeps : (s : S) → Good s → (x : X) → Fit x → (a : A) (s' : S) → goes a s' ≡ e s x → Good s') where
  -- so is the row,
  pub many_reads : (w : W) (s : S) (xs : List X) → Good s → Each Fit xs → read_many read (many e w s xs) ≡ many m w (read s) xs
  unfolding many on_turn read_turn
  many_reads w s [] g f = refl
  many_reads w s (x ∷ xs) g f =
      go (e s x) (λ a s' q. many_reads w s' xs (keeps s g x f.0 a s' q) f.1) refl ∙ ap (on_turn (λ a t. onward (a ∷ []) (many m w t xs)) (λ v. record { values = []; stopped = v; end = read s })) (law s g x f.0)
    where
      go : (y : Turn A W S) → ((a : A) (s' : S) → goes a s' ≡ e s x → read_many read (many e w s' xs) ≡ many m w (read s') xs) → y ≡ e s x
          → read_many read (on_turn (λ a s'. onward (a ∷ []) (many e w s' xs)) (λ v. record { values = []; stopped = v; end = s }) y)
          ≡ on_turn (λ a t. onward (a ∷ []) (many m w t xs)) (λ v. record { values = []; stopped = v; end = read s }) (read_turn read y)
      go (goes a s') h q = ap (onward (a ∷ [])) (h a s' q)
      go (stops v) h q = refl

  -- and the state that it leaves is good.
  pub many_keeps : (w : W) (s : S) (xs : List X) → Good s → Each Fit xs → Good (many e w s xs).end
  unfolding many on_turn
  many_keeps w s [] g f = g
  many_keeps w s (x ∷ xs) g f = go (e s x) (λ a s' q. many_keeps w s' xs (keeps s g x f.0 a s' q) f.1) refl
    where
      go : (y : Turn A W S) → ((a : A) (s' : S) → goes a s' ≡ e s x → Good (many e w s' xs).end) → y ≡ e s x
          → Good (on_turn (λ a s'. onward (a ∷ []) (many e w s' xs)) (λ v. record { values = []; stopped = v; end = s }) y).end
      go (goes a s') h q = h a s' q
      go (stops v) h q = g

-- THE LAW for turns from state and rooms: of sound ones a row gives, as it is read, what the model's row gives, and it leaves sound ones.
module _ {A B W X : Type 0} (e : Site → X → Turn A W Site) (m : Client → X → Turn A W Client) (Fit : X → Type 0)
    (law : (c : Connection) (r : Rooms) → Sound c r → (x : X) → Fit x → read_turn read_site (e (site c r) x) ≡ m (reads c r) x)
    (keeps : (c : Connection) (r : Rooms) → Sound c r → (x : X) → Fit x → (a : A) (s : Site) → goes a s ≡ e (site c r) x → Sound s.state s.left)
    (f : List A → W → Client → B) (over : W) (c : Connection) (r : Rooms) (S : Sound c r) (xs : List X) (fit : Each Fit xs) where
  pub row_model : model_of (gives (exact_many f (many e over (site c r) xs))) ≡ gives (model_many f (many m over (reads c r) xs))
  unfolding model_of
  row_model = ap (λ y. gives (model_many f y)) (many_reads e m read_site (λ s. Sound s.state s.left) Fit (λ s. law s.state s.left) (λ s. keeps s.state s.left) over (site c r) xs S fit)

  pub row_sound : Sound (many e over (site c r) xs).end.state (many e over (site c r) xs).end.left
  row_sound = many_keeps e m read_site (λ s. Sound s.state s.left) Fit (λ s. law s.state s.left) (λ s. keeps s.state s.left) over (site c r) xs S fit

-- A ROW OF SINGLE CALLS: what each turn carries on, the row carries to its end, with a log of what was given.
module _ {A W X S L : Type 0} (e : S → X → Turn A W S) (P : S → L → Type 1) (note : X → A → L → L) (Fit : X → Type 0)
    (carries : (s : S) (l : L) → P s l → (x : X) → Fit x → (a : A) (s' : S) → goes a s' ≡ e s x → P s' (note x a l)) where
  pub many_row : (w : W) (s : S) (xs : List X) (l : L) → P s l → Each Fit xs → P (many e w s xs).end (notes note xs (many e w s xs).values l)
  unfolding many notes on_turn
  many_row w s [] l p f = p
  many_row w s (x ∷ xs) l p f = go (e s x) (λ a s' q. many_row w s' xs (note x a l) (carries s l p x f.0 a s' q) f.1) refl
    where
      go : (y : Turn A W S) → ((a : A) (s' : S) → goes a s' ≡ e s x → P (many e w s' xs).end (notes note xs (many e w s' xs).values (note x a l))) → y ≡ e s x
          → P (on_turn (λ a s'. onward (a ∷ []) (many e w s' xs)) (λ v. record { values = []; stopped = v; end = s }) y).end
          (notes note (x ∷ xs) (on_turn (λ a s'. onward (a ∷ []) (many e w s' xs)) (λ v. record { values = []; stopped = v; end = s }) y).values l)
      go (goes a s') h q = h a s' q
      go (stops v) h q = p

-- ---- A LOOP over a row: vs was given and the rest is ahead.

module _ {A W X S : Type 0} (turn : S → X → Turn A W S) (over : W) (vs : List A) (s : S) where
  -- a turn that goes on,
  pub row_goes : (x : X) (xs : List X) (a : A) (s' : S) → goes a s' ≡ turn s x → onward vs (many turn over s (x ∷ xs)) ≡ onward (vs ++ (a ∷ [])) (many turn over s' xs)
  unfolding many on_turn
  row_goes x xs a s' q =
      ap (λ y. onward vs (on_turn (λ b t. onward (b ∷ []) (many turn over t xs)) (λ w. record { values = []; stopped = w; end = s }) y)) (sym q)
      ∙ (λ k. record { values = sym (append_assoc vs (a ∷ []) (many turn over s' xs).values) k; stopped = (many turn over s' xs).stopped; end = (many turn over s' xs).end })

  -- one that stops it,
  pub row_stops : (x : X) (xs : List X) (w : W) → stops w ≡ turn s x → onward vs (many turn over s (x ∷ xs)) ≡ onward vs (record { values = []; stopped = w; end = s })
  unfolding many on_turn
  row_stops x xs w q = ap (λ y. onward vs (on_turn (λ b t. onward (b ∷ []) (many turn over t xs)) (λ v. record { values = []; stopped = v; end = s }) y)) (sym q)

  -- and the end of the inputs.
  pub row_ends : onward vs (many turn over s []) ≡ onward vs (record { values = []; stopped = over; end = s })
  unfolding many
  row_ends = refl
