-- The certificates of a list of values, one after another.
use Rattle.std.proofs.Common.{◌≡◌, ◌∙◌, sym, ap, ap₂, subst, refl, ℕ, ◌+◌, ◌-◌, ◌^◌, ◌<◌, ◌≤◌, min, true, List, [], ◌∷◌, ◌++◌, map, length, take, drop, get_or, Some, None, arith, length-take}
use Rattle.std.proofs.lemmas.Bool.{and_from}
use Rattle.std.proofs.lemmas.List.{map-append, length-map, take-append-drop, take_more, take_all, at_drop_more}
use Rattle.lint_base.proofs.Lists.{all_append}
use Rattle.lint_core.specs.declared.certificate.Cert.{Cert}
use Rattle.serde_json.specs.View.{view}
use Rattle.serde_json.specs.declared.value.Value.{Value}
use Rattle.cert_format.specs.Forms.{cert_form, file_form}
use Rattle.cert_format.specs.Fitting.{cert_fits, is_numbered}
use Rattle.cert_format.specs.CertFile.{IsWrongAt}
use Rattle.cert_format.specs.inner.Found.{cert_found}
use Rattle.cert_format.specs.inner.Listed.{IsListOf}
use Rattle.cert_format.proofs.InverseCerts.{cert_back, no_cert}

-- the first values are those of the certificates so far, and the number is how many they are
pub record SoFar (values : List Value) (i : ℕ) (certs : List Cert) (at : ℕ) : Type 0 where
  pub within : i ≤ length values
  pub listed : IsListOf (map view (take i values)) certs
  pub place : at ≡ min i (2 ^ 32 - 1)

pub none_yet : (values : List Value) → SoFar values 0 [] 0
none_yet values = record { within = omega arith; listed = record { forms = refl; fits = refl; numbered = refl }; place = omega arith }

module _ (values : List Value) (i : ℕ) (certs : List Cert) (at : ℕ) (far : SoFar values i certs at) where
  -- as many certificates as values
  count : length certs ≡ i
  count =
      let same = ap length far.listed.forms in
      omega (arith, length-map certs cert_form, length-map (take i values) view, length-take i values, same, far.within)

  module _ (v : Value) (low : i < length values) (is : v ≡ get_or values i v) (later : ℕ) (next : later ≡ min (at + 1) (2 ^ 32 - 1)) where
    one_more : map view (take (i + 1) values) ≡ map view (take i values) ++ view v ∷ []
    one_more = ap (map view) (take_more values i v low ∙ ap (λ w. take i values ++ w ∷ []) (sym is)) ∙ map-append view (take i values) (v ∷ [])

    pub goes_on : (cert : Cert) → cert_found (view v) ≡ Some cert → SoFar values (i + 1) (certs ++ cert ∷ []) later
    goes_on cert found =
        let this = cert_back (view v) cert found in
        record {
          within = omega arith;
          listed = record {
            forms = one_more ∙ ap₂ (λ xs x. xs ++ x ∷ []) far.listed.forms this.form ∙ sym (map-append cert_form certs (cert ∷ []));
            fits = all_append cert_fits certs (cert ∷ []) far.listed.fits (and_from (cert_fits cert) true this.fits refl);
            numbered = all_append is_numbered certs (cert ∷ []) far.listed.numbered (and_from (is_numbered cert) true this.numbered refl);
          };
          place = omega (arith, next, far.place);
        }

    split : map view values ≡ map cert_form certs ++ view v ∷ map view (drop (i + 1) values)
    split =
        ap (map view) (sym (take-append-drop i values)) ∙ map-append view (take i values) (drop i values)
        ∙ ap₂ (λ xs ys. xs ++ ys) far.listed.forms (at_drop_more (map view) values i v low ∙ ap (λ w. view w ∷ map view (drop (i + 1) values)) (sym is))

    pub goes_wrong : cert_found (view v) ≡ None → IsWrongAt (file_form (map view values)) later
    goes_wrong found = record {
      before = certs;
      wrong = view v;
      behind = map view (drop (i + 1) values);
      form = ap file_form split;
      fits = far.listed.fits;
      numbered = far.listed.numbered;
      none = no_cert (view v) found;
      place = omega (arith, next, far.place, count);
    }

  pub is_over : length values ≤ i → IsListOf (map view values) certs
  is_over high = subst (λ vs. IsListOf (map view vs) certs) (take_all i values high) far.listed
