-- Bytes have one list of certificates, or one fault.
use Rattle.std.proofs.Common.{◌≡◌, ◌≢◌, ◌∙◌, sym, ap, subst, refl, ℕ, zero, suc, Bool, true, ◌&&◌, List, [], ◌∷◌, ◌++◌, map, length, Option, Some, None, option_and_then, arith}
use Rattle.std.proofs.lemmas.Bool.{and_parts, and_from}
use Rattle.std.proofs.lemmas.Option.{same_Some}
use Rattle.std.specs.List.{list_all}
use Rattle.lint_core.specs.declared.certificate.Cert.{Cert}
use Rattle.serde_json.specs.Data.{Data, Items, item, no_items}
use Rattle.serde_json.specs.View.{items_of}
use Rattle.cert_format.specs.declared.fault.CertFault.{CertFault}
use Rattle.cert_format.specs.declared.fault.CertFault.TheVariants as fault
use Rattle.cert_format.specs.Forms.{cert_form, file_form}
use Rattle.cert_format.specs.Fitting.{cert_fits, is_numbered}
use Rattle.cert_format.specs.CertFile.{HasReading, IsCert, ReadsAs, IsWrongAt, IsBadShape, Refuses}
use Rattle.cert_format.specs.inner.Found.{all_found, cert_found, certs_found}
use Rattle.cert_format.proofs.Inverses.{Inverse, lists}
use Rattle.cert_format.proofs.InverseCerts.{cert_there, cert_back}

same_value : (bytes : List ℕ) (a b : Data) → HasReading bytes a → HasReading bytes b → a ≡ b
same_value bytes a b one two = same_Some a b (sym one.value ∙ two.value)

-- ---- certificates

is_right : Cert → Bool
is_right cert = cert_fits cert && is_numbered cert

all_right : (certs : List Cert) → list_all cert_fits certs ≡ true → list_all is_numbered certs ≡ true → list_all is_right certs ≡ true
unfolding is_right
all_right [] fits numbered = refl
all_right (cert ∷ certs) fits numbered =
    let p = and_parts (cert_fits cert) (list_all cert_fits certs) fits in
    let q = and_parts (is_numbered cert) (list_all is_numbered certs) numbered in
    and_from (cert_fits cert && is_numbered cert) (list_all is_right certs) (and_from (cert_fits cert) (is_numbered cert) p.0 q.0) (all_right certs p.1 q.1)

certs_inverse : Inverse cert_form is_right cert_found
unfolding is_right
certs_inverse = record {
  there = λ cert right. let p = and_parts (cert_fits cert) (is_numbered cert) right in cert_there cert p.0 p.1;
  back = λ json cert found. let is = cert_back json cert found in (is.form, and_from (cert_fits cert) (is_numbered cert) is.fits is.numbered);
}

-- the certificates of a file's value
abbrev listed : Data → Option (List Cert)
listed json = option_and_then (all_found cert_found) (certs_found json)

listed_back : (bytes : List ℕ) (certs : List Cert) → ReadsAs bytes certs → listed (file_form (map cert_form certs)) ≡ Some certs
listed_back bytes certs reads = (lists cert_form is_right cert_found certs_inverse).there certs (all_right certs reads.fits reads.numbered)

pub same_certs : (bytes : List ℕ) (one two : List Cert) → ReadsAs bytes one → ReadsAs bytes two → one ≡ two
same_certs bytes one two first second =
    let same = same_value bytes (file_form (map cert_form one)) (file_form (map cert_form two)) first.reading second.reading in
    same_Some one two (sym (listed_back bytes one first) ∙ ap listed same ∙ listed_back bytes two second)

-- ---- values of certificates

abbrev parts_of : Items → List Data
parts_of no_items = []
parts_of (item json more) = json ∷ parts_of more

parts_back : (parts : List Data) → parts_of (items_of parts) ≡ parts
parts_back [] = refl
parts_back (json ∷ parts) = ap (λ l. json ∷ l) (parts_back parts)

abbrev found_parts : Option Items → List Data
found_parts None = []
found_parts (Some parts) = parts_of parts

same_parts : (one two : List Data) → file_form one ≡ file_form two → one ≡ two
same_parts one two same = sym (parts_back one) ∙ ap (λ json. found_parts (certs_found json)) same ∙ parts_back two

-- a value of a file is that of a certificate
hits : (before certs : List Cert) (wrong : Data) (behind : List Data) → map cert_form certs ≡ map cert_form before ++ wrong ∷ behind
    → list_all cert_fits certs ≡ true → list_all is_numbered certs ≡ true → (cert : Cert) × IsCert wrong cert
hits [] [] wrong behind same fits numbered = cc
hits [] (cert ∷ certs) wrong behind same fits numbered =
    let first : wrong ≡ cert_form cert = cc in
    let p = and_parts (cert_fits cert) (list_all cert_fits certs) fits in
    let q = and_parts (is_numbered cert) (list_all is_numbered certs) numbered in
    (cert, record { form = first; fits = p.0; numbered = q.0 })
hits (one ∷ before) [] wrong behind same fits numbered = cc
hits (one ∷ before) (cert ∷ certs) wrong behind same fits numbered =
    let rest : map cert_form certs ≡ map cert_form before ++ wrong ∷ behind = cc in
    hits before certs wrong behind rest (and_parts (cert_fits cert) (list_all cert_fits certs) fits).1 (and_parts (is_numbered cert) (list_all is_numbered certs) numbered).1

pub not_both : (bytes : List ℕ) (why : CertFault) (certs : List Cert) → why ≢ fault.NoMemory → Refuses bytes why → ReadsAs bytes certs → ⊥
not_both bytes fault.NotJson certs other refused reads = refused (file_form (map cert_form certs)) reads.reading
not_both bytes (fault.BadShape zero) certs other (json, has, none) reads = none (map cert_form certs) (same_value bytes json (file_form (map cert_form certs)) has reads.reading)
not_both bytes (fault.BadShape (suc n)) certs other (json, has, is) reads =
    let same = sym (same_value bytes json (file_form (map cert_form certs)) has reads.reading) ∙ is.form in
    let hit = hits is.before certs is.wrong is.behind (same_parts (map cert_form certs) _ same) reads.fits reads.numbered in
    is.none hit.0 hit.1
not_both bytes fault.NoMemory certs other refused reads = other refl

-- ---- faults

-- the first value that is of no certificate stands at one place
same_length : (before before' : List Cert) (wrong wrong' : Data) (behind behind' : List Data) → map cert_form before ++ wrong ∷ behind ≡ map cert_form before' ++ wrong' ∷ behind'
    → list_all is_right before ≡ true → list_all is_right before' ≡ true → ((cert : Cert) → IsCert wrong cert → ⊥) → ((cert : Cert) → IsCert wrong' cert → ⊥)
    → length before ≡ length before'
unfolding is_right
same_length [] [] wrong wrong' behind behind' same right right' none none' = refl
same_length [] (cert ∷ before') wrong wrong' behind behind' same right right' none none' =
    let first : wrong ≡ cert_form cert = cc in
    let p = and_parts (cert_fits cert) (is_numbered cert) (and_parts (cert_fits cert && is_numbered cert) (list_all is_right before') right').0 in
    absurd (none cert (record { form = first; fits = p.0; numbered = p.1 }))
same_length (cert ∷ before) [] wrong wrong' behind behind' same right right' none none' =
    let first : wrong' ≡ cert_form cert = cc in
    let p = and_parts (cert_fits cert) (is_numbered cert) (and_parts (cert_fits cert && is_numbered cert) (list_all is_right before) right).0 in
    absurd (none' cert (record { form = first; fits = p.0; numbered = p.1 }))
same_length (cert ∷ before) (cert' ∷ before') wrong wrong' behind behind' same right right' none none' =
    let rest : map cert_form before ++ wrong ∷ behind ≡ map cert_form before' ++ wrong' ∷ behind' = cc in
    ap suc (same_length before before' wrong wrong' behind behind' rest
    (and_parts (cert_fits cert && is_numbered cert) (list_all is_right before) right).1 (and_parts (cert_fits cert' && is_numbered cert') (list_all is_right before') right').1 none none')

same_place : (json : Data) (m n : ℕ) → IsWrongAt json m → IsWrongAt json n → m ≡ n
same_place json m n one two =
    let same = same_parts _ _ (sym one.form ∙ two.form) in
    let long = same_length one.before two.before one.wrong two.wrong one.behind two.behind same
    (all_right one.before one.fits one.numbered) (all_right two.before two.fits two.numbered) one.none two.none in
    omega (arith, long, one.place, two.place)

same_shape : (json : Data) (m n : ℕ) → IsBadShape json m → IsBadShape json n → m ≡ n
same_shape json zero zero one two = refl
same_shape json zero (suc n) one two = absurd (one (map cert_form two.before ++ two.wrong ∷ two.behind) two.form)
same_shape json (suc m) zero one two = absurd (two (map cert_form one.before ++ one.wrong ∷ one.behind) one.form)
same_shape json (suc m) (suc n) one two = same_place json (suc m) (suc n) one two

pub same_fault : (bytes : List ℕ) (one two : CertFault) → one ≢ fault.NoMemory → two ≢ fault.NoMemory → Refuses bytes one → Refuses bytes two → one ≡ two
same_fault bytes fault.NotJson fault.NotJson other other' first second = refl
same_fault bytes fault.NotJson (fault.BadShape n) other other' first second = absurd (first second.0 second.1)
same_fault bytes (fault.BadShape m) fault.NotJson other other' first second = absurd (second first.0 first.1)
same_fault bytes (fault.BadShape m) (fault.BadShape n) other other' first second =
    let same = same_value bytes second.0 first.0 second.1 first.1 in
    ap fault.BadShape (same_shape first.0 m n first.2 (subst (λ json. IsBadShape json n) same second.2))
same_fault bytes fault.NoMemory two other other' first second = absurd (other refl)
same_fault bytes one fault.NoMemory other other' first second = absurd (other' refl)
