use Rattle.std.proofs.Common.{◌≡◌, inr, refl, ap, ◌∙◌, Some, arith}
use Rattle.std.specs.Prelude.{pos, Option, ℕ, List}
use Rattle.std.proofs.lemmas.Result.{IfOk-weaker}
use Rattle.columns_core.specs.DictionaryKeys.{named_places}
use Rattle.columns_core.specs.Array.{cells}
use Rattle.columns_core.specs.Keyed.{KeyedColumn, keyed_cells, keyed_column, named_cells}
use Rattle.columns_core.proofs.KeyLemmas.{accepted, accepted_places, refused, cells_of_places}
use Rattle.columns_core.proofs.dictionary.DictionaryArray.try_new.Goals as goal

pub returns-then-not-are_below-clause-err : goal.returns-then-not-are_below-clause-err
returns-then-not-are_below-clause-err g c =
    inr (inr (
      refl,
      refused g.K.DictionaryKey.number (cells c.args.values) (omega (arith, c.len.ensures, c.len.type_inv)) c.args.keys.items (named_places c.keep-keys.result) c.len.result c.are_below.result
          c.keep-keys.ensures.places c.len.ensures c.are_below.ensures c.if-not-are_below.true,
    ))

pub of_places-requires : goal.of_places-requires
of_places-requires g c = record {
  typed = (c.is_dictionary_of.ensures.0 c.if-not-is_dictionary_of.false).1 ∙ ap Some c.data_type.ensures;
  named = accepted_places g.K.DictionaryKey.number (cells c.args.values) (omega (arith, c.len.ensures, c.len.type_inv)) c.args.keys.items (named_places c.keep-keys.result) c.len.result c.are_below.result
      c.keep-keys.ensures.places c.len.ensures c.are_below.ensures c.if-not-are_below.false;
}

pub returns-clause-array : goal.returns-clause-array
returns-clause-array g c =
    IfOk-weaker c.of_places.result (λ (array : KeyedColumn). array ≡ record { data_type = c.args.data_type; keys = named_places c.keep-keys.result; entries = cells c.args.values }) (λ (array : KeyedColumn). array ≡ keyed_column g.K.DictionaryKey.number c.args.data_type c.args.keys.items (cells c.args.values))
    (λ array is. is ∙ ap (λ (keys : List (Option ℕ)). record { data_type = c.args.data_type; keys = keys; entries = cells c.args.values }) c.keep-keys.ensures.places) c.of_places.ensures.array

pub returns-clause-cells : goal.returns-clause-cells
returns-clause-cells g c =
    IfOk-weaker c.of_places.result (λ (array : KeyedColumn). array ≡ record { data_type = c.args.data_type; keys = named_places c.keep-keys.result; entries = cells c.args.values }) (λ (array : KeyedColumn). named_cells array ≡ keyed_cells g.K.DictionaryKey.number (cells c.args.values) c.args.keys.items)
    (λ array is. ap named_cells is ∙ ap (keyed_cells pos (cells c.args.values)) c.keep-keys.ensures.places ∙ cells_of_places g.K.DictionaryKey.number (cells c.args.values) c.args.keys.items (accepted g.K.DictionaryKey.number (cells c.args.values) (omega (arith, c.len.ensures, c.len.type_inv)) c.args.keys.items (named_places c.keep-keys.result) c.len.result c.are_below.result
    c.keep-keys.ensures.places c.len.ensures c.are_below.ensures c.if-not-are_below.false))
    c.of_places.ensures.array

pub returns-clause-ok : goal.returns-clause-ok
returns-clause-ok g c =
    IfOk-weaker c.of_places.result (λ (array : KeyedColumn). array ≡ record { data_type = c.args.data_type; keys = named_places c.keep-keys.result; entries = cells c.args.values }) (λ _. _)
    (λ array is. (
      ((c.is_dictionary_of.ensures.0 c.if-not-is_dictionary_of.false).0 ∙ ap Some c.key_type.ensures, (c.is_dictionary_of.ensures.0 c.if-not-is_dictionary_of.false).1 ∙ ap Some c.data_type.ensures),
      accepted g.K.DictionaryKey.number (cells c.args.values) (omega (arith, c.len.ensures, c.len.type_inv)) c.args.keys.items (named_places c.keep-keys.result) c.len.result c.are_below.result
          c.keep-keys.ensures.places c.len.ensures c.are_below.ensures c.if-not-are_below.false,
    )) c.of_places.ensures.array
