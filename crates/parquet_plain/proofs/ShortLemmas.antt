-- When pages and indexes are short.
use Rattle.std.proofs.Common.{◌≡◌, ℕ, ◌^◌, ◌<◌, ◌≤◌, ◌&&◌, Bool, true, false, refl, ap, ◌∙◌, arith, length, length-append}
use Rattle.std.proofs.lemmas.Bool.{le-ltb, lt-ltb, ltb-true}
use Rattle.parquet_plain.specs.Description.{PlainPage, page_bytes}
use Rattle.parquet_plain.specs.Short.{is_short, is_short_page}
use Rattle.parquet_plain.specs.Structs.{page_header_bytes}

pub and_both : (a b : Bool) → a ≡ true → b ≡ true → (a && b) ≡ true
and_both a b first second = ap (λ (t : Bool). t && b) first ∙ second

pub and_first : (a b : Bool) → a ≡ false → (a && b) ≡ false
and_first a b none = ap (λ (t : Bool). t && b) none

pub and_second : (a b : Bool) → b ≡ false → (a && b) ≡ false
and_second true b none = none
and_second false b none = refl

pub is_short-lt : (n : ℕ) → n < 2 ^ 31 → is_short n ≡ true
is_short-lt n lt = lt-ltb n (2 ^ 31) lt

pub is_short-le : (n : ℕ) → 2 ^ 31 ≤ n → is_short n ≡ false
is_short-le n le = le-ltb n (2 ^ 31) le

pub page_is_short : (page : PlainPage) → page.rows < 2 ^ 31 → length (page_bytes page) < 2 ^ 31 → is_short_page page ≡ true
page_is_short page rows bytes =
    and_both (is_short page.rows) (is_short (length (page_bytes page))) (is_short-lt page.rows rows) (is_short-lt (length (page_bytes page)) bytes)

pub page_has_many_rows : (page : PlainPage) → 2 ^ 31 ≤ page.rows → is_short_page page ≡ false
page_has_many_rows page many = and_first (is_short page.rows) (is_short (length (page_bytes page))) (is_short-le page.rows many)

pub page_is_long : (page : PlainPage) → 2 ^ 31 ≤ length (page_bytes page) → is_short_page page ≡ false
page_is_long page long = and_second (is_short page.rows) (is_short (length (page_bytes page))) (is_short-le (length (page_bytes page)) long)

pub body_is_long : (page : PlainPage) → 2 ^ 31 ≤ length page.body → is_short_page page ≡ false
unfolding page_bytes
body_is_long page long = page_is_long page (omega (arith, length-append (page_header_bytes page.rows (length page.body)) page.body))

pub short_page_has_few_rows : (page : PlainPage) → is_short_page page ≡ true → page.rows < 2 ^ 31
short_page_has_few_rows page short = ltb-true page.rows (2 ^ 31) (and_left (is_short page.rows) (is_short (length (page_bytes page))) short)
  where
    and_left : (a b : Bool) → (a && b) ≡ true → a ≡ true
    and_left true b both = refl
    and_left false b both = both
