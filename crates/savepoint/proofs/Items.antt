-- The items of the file are exact: a request in its byte, and a held packet as the record that a store has of it. Assumes nothing.
use Rattle.std.specs.Prelude.{◌≡◌, Bool, false, leb}
use Rattle.std.proofs.Math.Path.{refl, sym, ap}
use Rattle.std.proofs.Common.{◌∙◌, arith, leb-true, le-leb, eqb-true, eq-eqb}
use Rattle.std.proofs.Math.Bool.{true}
use mathlib.Core.List.{List, [], ◌∷◌, ◌++◌, map}
use Rattle.std.proofs.Math.Option.{some}
use Prim.Native.Nat.{ℕ, zero, suc, ◌≤◌}
use Rattle.std.proofs.Math.ListN.{length, take, drop, take-append-drop}
use Rattle.std.proofs.Math.Seq.{take_at, drop_at}
use Rattle.octets.specs.Logic.{choose, both_left, both_right, both_yes}
use Rattle.octets.specs.Bytes.{Octets}
use Rattle.requests.specs.declared.Mode.{Mode}
use Rattle.requests.specs.declared.Mode.TheVariants.{Keep, DiscardReply, DiscardReplyAndError}
use Rattle.requests.specs.declared.Request.{Request}
use Rattle.held.specs.General.{same_is, same_yes}
use Rattle.held.specs.Head as Head
use Rattle.held.specs.Reading as Store
use Rattle.model.specs.Client.{Held, held_packet}
use Rattle.form.specs.Form.{writes}
use Rattle.form.specs.FormLaws.{Exact}
use Rattle.form.proofs.FormLaws.{some_same, none_some, when_some, when_yes}
use Rattle.savepoint.specs.Saved.{request_code, code_mode, code_request, last_code, read_request, request, row_of, held_of, begins, held}

-- ---- requests: by the six cases

pub request_code_lem : (r : Request) → code_request (request_code r) ≡ r
unfolding code_request request_code code_mode choose
request_code_lem r = go r.descriptors r.mode
  where
    go : (d : Bool) (m : Mode) → code_request (request_code (record { descriptors = d; mode = m })) ≡ record { descriptors = d; mode = m }
    go true Keep = refl
    go true DiscardReply = refl
    go true DiscardReplyAndError = refl
    go false Keep = refl
    go false DiscardReply = refl
    go false DiscardReplyAndError = refl

pub code_most : (r : Request) → request_code r ≤ last_code
unfolding request_code choose
code_most r = go r.descriptors r.mode
  where
    go : (d : Bool) (m : Mode) → request_code (record { descriptors = d; mode = m }) ≤ last_code
    go true Keep = omega arith
    go true DiscardReply = omega arith
    go true DiscardReplyAndError = omega arith
    go false Keep = omega arith
    go false DiscardReply = omega arith
    go false DiscardReplyAndError = omega arith

pub code_request_lem : (b : ℕ) → b ≤ last_code → request_code (code_request b) ≡ b
unfolding code_request request_code code_mode choose
code_request_lem zero h = refl
code_request_lem (suc zero) h = refl
code_request_lem (suc (suc zero)) h = refl
code_request_lem (suc (suc (suc zero))) h = refl
code_request_lem (suc (suc (suc (suc zero)))) h = refl
code_request_lem (suc (suc (suc (suc (suc zero))))) h = refl
code_request_lem (suc (suc (suc (suc (suc (suc b)))))) h = absurd (omega arith)

request_only : (s : List ℕ) → Octets s → (r : Request) (rest : List ℕ) → some (r, rest) ≡ read_request s → (true ≡ true) × (request_code r ∷ rest ≡ s)
unfolding read_request
request_only [] o r rest e = none_some (sym e)
request_only (b ∷ s) o r rest e =
    let p = when_some _ _ e in
    let q = some_same p.1 in
    (refl, (λ i. request_code (q i).0 ∷ (q i).1) ∙ ap (λ (c : ℕ). c ∷ s) (code_request_lem b (leb-true _ _ p.0)))

request_back : (r : Request) (rest : List ℕ) → true ≡ true → some (r, rest) ≡ read_request (request_code r ∷ rest)
unfolding read_request
request_back r rest h = (λ i. some (sym (request_code_lem r) i, rest)) ∙ when_yes _ _ (below (request_code r) (code_most r))
  where
    below : (b : ℕ) → b ≤ last_code → leb b last_code ≡ true
    below b h = le-leb b last_code h

pub request_exact : Exact request
request_exact = record { back = request_back; only = request_only }

-- ---- held packets

pub empty : {A : Type 0} (l : List A) → length l ≡ 0 → [] ≡ l
empty [] e = refl
empty (x ∷ l) e = absurd (omega arith)

module _ (kind : ℕ) where
  held_back : (h : Held) (rest : List ℕ) → (held kind).fits h ≡ true → some (h, rest) ≡ (held kind).read ((held kind).write h ++ rest)
  unfolding begins
  held_back h rest t =
      let r : Head.Record = row_of kind h in
      let x : List ℕ = Head.encoded r ++ rest in
      let f : Head.fits r ≡ true = both_left _ _ t in
      let d : Head.decoded x ≡ r = Head.decoded_encoded r (Head.fits_is r f) rest in
      let l : length (Head.encoded r) ≡ Head.cost r = Head.length_encoded r in
      let a : take (Head.cost (Head.decoded x)) x ≡ Head.encoded (Head.decoded x) = ap (λ (k : Head.Record). take (Head.cost k) x) d ∙ take_at (Head.encoded r) rest (Head.cost r) l ∙ ap Head.encoded (sym d) in
      let b : drop (Head.cost (Head.decoded x)) x ≡ rest = ap (λ (k : Head.Record). drop (Head.cost k) x) d ∙ drop_at (Head.encoded r) rest (Head.cost r) l in
      let e : h ≡ held_of (Head.decoded x) = (λ i. held_packet h.number h.packet (sym (empty h.descriptors (eqb-true _ _ (both_right _ _ t))) i)) ∙ ap held_of (sym d) in
      (λ i. some (e i, sym b i))
      ∙ when_yes _ _ (both_yes _ _ (both_yes _ _ (ap Head.fits d ∙ f) (same_yes _ _ a)) (both_yes _ _ (eq-eqb _ _ (ap (λ (k : Head.Record). k.kind) d)) (eq-eqb _ _ (ap (λ (k : Head.Record). k.fds) d))))

  held_only : (x : List ℕ) → Octets x → (h : Held) (rest : List ℕ) → some (h, rest) ≡ (held kind).read x → ((held kind).fits h ≡ true) × ((held kind).write h ++ rest ≡ x)
  unfolding begins
  held_only x o h rest e =
      let p = when_some _ _ e in
      let q = some_same p.1 in
      let d : Head.Record = Head.decoded x in
      let t = both_left _ _ p.0 in
      let u = both_right _ _ p.0 in
      let k : kind ≡ d.kind = sym (eqb-true d.kind kind (both_left _ _ u)) in
      let z : 0 ≡ d.fds = sym (eqb-true d.fds 0 (both_right _ _ u)) in
      let a : h ≡ held_of d = ap (λ p. p.0) q in
      let b : rest ≡ drop (Head.cost d) x = ap (λ p. p.1) q in
      let r : row_of kind h ≡ d = ap (row_of kind) a ∙ (λ i. Head.held d.number (z i) (k i) d.packet) in (
        both_yes _ _ (ap Head.fits r ∙ both_left _ _ t) (eq-eqb _ _ (ap (λ (y : Held). length y.descriptors) a)),
        (λ i. Head.encoded (r i) ++ b i) ∙ ap (λ (l : List ℕ). l ++ drop (Head.cost d) x) (sym (same_is _ _ (both_right _ _ t))) ∙ take-append-drop (Head.cost d) x,
      )

  pub held_exact : Exact (held kind)
  held_exact = record { back = held_back; only = held_only }

  -- a section's records are the bytes that a store has: to restore them is to copy them
  pub writes_flat : (l : List Held) → writes (held kind) l ≡ Store.flat (map (row_of kind) l)
  unfolding writes Store.flat
  writes_flat [] = refl
  writes_flat (h ∷ l) = ap (λ (x : List ℕ). Head.encoded (row_of kind h) ++ x) (writes_flat l)
