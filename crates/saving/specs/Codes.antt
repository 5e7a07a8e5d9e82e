-- A section of requests, tested where it stands: a section of bytes, each the code of a request. Assumes nothing.
use Rattle.std.specs.Prelude.{◌≡◌, refl, Bool, true, false, not, ◌&&◌, List, [], ◌∷◌, ◌++◌, map, ℕ, ◌+◌, ◌-◌, ◌≤◌, leb, length, drop}
use Rattle.std.specs.List.{list_all}
use Rattle.std.proofs.Common.{sym, ap, ◌∙◌, leb-true, le-leb}
use Rattle.std.proofs.Math.Option.{some}
use Rattle.std.proofs.lemmas.List.{length-map}
use Rattle.std.proofs.lemmas.Bool.{not-true, not-false}
use Rattle.octets.specs.Logic.{both, both_left, both_right, both_yes, apart}
use Rattle.octets.specs.Bytes.{word, Octets}
use Rattle.octets.specs.Put.{cut}
use Rattle.octets.specs.Field.{octets_drop}
use Rattle.requests.specs.declared.Request.{Request}
use Rattle.form.specs.Form.{number, byte, counted, each, writes}
use Rattle.form.proofs.FormLaws.{some_same, byte_exact, counted_exact, each_so}
use Rattle.form.specs.At.{At, Here, any}
use Rattle.form.proofs.At.{here, bytes_written}
use Rattle.savepoint.specs.Saved.{request_code, code_request, last_code, request}
use Rattle.savepoint.proofs.Items.{code_most, code_request_lem, request_exact}

abbrev pub is_code : ℕ → Bool
is_code b = leb b last_code

abbrev pub any_requests : List Request → Bool
any_requests l = true

-- requests as bytes
codes_written : (l : List Request) → writes request l ≡ writes byte (map request_code l)
unfolding writes
codes_written [] = refl
codes_written (r ∷ l) = ap (λ (x : List ℕ). request_code r ∷ x) (codes_written l)

codes_good : (l : List Request) → each is_code (map request_code l) ≡ true
unfolding each
codes_good [] = refl
codes_good (r ∷ l) = both_yes _ _ (le-leb (request_code r) last_code (code_most r)) (codes_good l)

-- and back
codes_back : (l : List ℕ) → each is_code l ≡ true → map request_code (map code_request l) ≡ l
unfolding each
codes_back [] h = refl
codes_back (b ∷ l) h = λ i. code_request_lem b (leb-true _ _ (both_left _ _ h)) i ∷ codes_back l (both_right _ _ h) i

-- the test of each, as a chain over them says it
pub all_each : (p : ℕ → Bool) (l : List ℕ) → list_all p l ≡ each p l
unfolding each both
all_each p [] = refl
all_each p (b ∷ l) = go (p b) (all_each p l)
  where
    go : (t : Bool) → list_all p l ≡ each p l → (t && list_all p l) ≡ both t (each p l)
    go true e = e
    go false e = refl

module _ (s : List ℕ) (o : Octets s) (at : ℕ) where
  -- requests that are read are bytes that are read
  as_bytes : (l : List Request) (y : List ℕ) → some (l, y) ≡ (counted 4 request).read (drop at s) → some (map request_code l, y) ≡ (counted 4 byte).read (drop at s)
  as_bytes l y e =
      let m = (counted_exact request request_exact 4).only (drop at s) (octets_drop at s o) l y e in
      let n : length (map request_code l) ≡ length l = length-map l request_code in
      let w : (counted 4 byte).write (map request_code l) ++ y ≡ drop at s = (λ i. word 4 (n i) ++ sym (codes_written l) i ++ y) ∙ m.1 in
      (counted_exact byte byte_exact 4).back (map request_code l) y (both_yes _ _ (ap (number 4).fits n ∙ both_left _ _ m.0) (each_so byte.fits (λ b. refl) (map request_code l))) ∙ ap (counted 4 byte).read w

  pub requests_none : At (counted 4 byte) any s at 0 → At (counted 4 request) any_requests s at 0
  requests_none F = record { there = λ z. absurd (z refl); missing = λ z l y e t. F.missing refl (map request_code l) y (as_bytes l y e) refl }

  module _ (h : at ≤ length s) (r : ℕ) (F : At (counted 4 byte) any s at r) (z : r ≡ 0 → ⊥) where
    stands : Here byte s at r
    stands = let a = F.there z in here byte byte_exact s o at r a.3 h a.0 a.1

    pub run_order : (at + 4 ≤ r) × (r ≤ length s)
    run_order = (stands.order, stands.within)

    are : cut (at + 4) (r - (at + 4)) s ≡ stands.items
    are = stands.bytes ∙ bytes_written stands.items

    pub requests_wrong : (b : Bool) → b ≡ each is_code (cut (at + 4) (r - (at + 4)) s) → not b ≡ true → At (counted 4 request) any_requests s at 0
    requests_wrong b e t = record {
      there = λ w. absurd (w refl);
      missing = λ w l y q u.
          let k : stands.items ≡ map request_code l = ap (λ x. x.0) (some_same (stands.reads ∙ sym (as_bytes l y q))) in
          apart (e ∙ ap (each is_code) are ∙ ap (each is_code) k ∙ codes_good l) (not-true b t);
    }

    pub requests_good : (b : Bool) → b ≡ each is_code (cut (at + 4) (r - (at + 4)) s) → not b ≡ false → At (counted 4 request) any_requests s at r
    requests_good b e t =
        let g : each is_code stands.items ≡ true = ap (each is_code) (sym are) ∙ sym e ∙ not-false b t in
        let q : List Request = map code_request stands.items in
        let n : length q ≡ length stands.items = length-map stands.items code_request in
        let m = (counted_exact byte byte_exact 4).only (drop at s) (octets_drop at s o) stands.items (drop r s) stands.reads in
        let v : writes request q ≡ writes byte stands.items = codes_written q ∙ ap (writes byte) (codes_back stands.items g) in
        let w : (counted 4 request).write q ++ drop r s ≡ drop at s = (λ i. word 4 (n i) ++ v i ++ drop r s) ∙ m.1 in
        record {
          there = λ x. (q, (counted_exact request request_exact 4).back q (drop r s) (both_yes _ _ (ap (number 4).fits n ∙ both_left _ _ m.0) (each_so request.fits (λ r. refl) q)) ∙ ap (counted 4 request).read w, refl, stands.within);
          missing = λ x. absurd (z x);
        }
