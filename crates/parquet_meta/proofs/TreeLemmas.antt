-- The schema's list, read with the open groups at hand.
use Rattle.std.proofs.Common.{◌≡◌, ℕ, zero, suc, ◌+◌, ◌-◌, List, [], ◌∷◌, ◌++◌, Option, Some, None, refl, sym, ap, ◌∙◌, arith, length, append_assoc}
use Rattle.std.specs.Borrow.{Bor}
use Rattle.std.specs.Prelude.{option_map, Bool, true, false, nat_le}
use Rattle.std.proofs.lemmas.Bool.{leb-true, leb-false}
use Rattle.std.proofs.lemmas.List.{append-nil, length-append}
use Rattle.parquet_base.specs.Reading.{◌>>=◌, given}
use Rattle.parquet_meta.specs.OpenGroups.{name_of, path_of, next_element}
use Rattle.parquet_meta.specs.Tree.{Walk, neighbours, children_of, leaf_of, node_of, node_within, all_used, below_root, leaves}
use Rattle.parquet_meta.specs.declared.tree.OpenGroup.{OpenGroup}
use Rattle.parquet_meta.specs.declared.code.TypeCode.{TypeCode}
use Rattle.parquet_meta.specs.declared.schema.SchemaElement.{SchemaElement}
use Rattle.parquet_meta.specs.declared.metadata.ColumnDescriptor.{ColumnDescriptor}
use Rattle.parquet_meta.specs.declared.metadata.Repetition.{Repetition}

-- leaves, and the elements after them
abbrev Found : Type 0
Found = Option (List ColumnDescriptor × List SchemaElement)

-- leaves that stand in front of others
abbrev pub with_front : List ColumnDescriptor → Found → Found
with_front front o = o >>= λ others. Some (front ++ others.0, others.1)

-- leaves, and then those of the elements after them
abbrev then : Found → (List SchemaElement → Found) → Found
then o next = o >>= λ found. with_front found.0 (next found.1)

-- what the open groups still hold, the last of them first
abbrev below : (List SchemaElement → Found) → List (List ℕ) → ℕ → List OpenGroup → List SchemaElement → Found
below outer path deep [] es = outer es
below outer path deep (group ∷ groups) es =
    below (λ rest. then (neighbours (node_within deep) group.left (path ++ name_of group.name) rest) outer) (path ++ name_of group.name) (deep - 1) groups es

abbrev pub after_groups : List OpenGroup → List SchemaElement → Found
after_groups groups es = below (λ rest. Some ([], rest)) [] 31 groups es

front_none : (o : Found) → with_front [] o ≡ o
front_none None = refl
front_none (Some found) = refl

front_front : (front more : List ColumnDescriptor) (o : Found) → with_front front (with_front more o) ≡ with_front (front ++ more) o
front_front front more None = refl
front_front front more (Some found) = ap (λ (xs : List ColumnDescriptor). Some (xs, found.1)) (sym (append_assoc front more found.0))

front_then : (front : List ColumnDescriptor) (o : Found) (next : List SchemaElement → Found) → then (with_front front o) next ≡ with_front front (then o next)
front_then front None next = refl
front_then front (Some found) next = sym (front_front front found.0 (next found.1))

-- the last group
below-last : (outer : List SchemaElement → Found) (path : List (List ℕ)) (deep : ℕ) (groups : List OpenGroup) (group : OpenGroup) (es : List SchemaElement) →
    below outer path deep (groups ++ group ∷ []) es
    ≡ then (neighbours (node_within (deep - length groups)) group.left (path ++ path_of (groups ++ group ∷ [])) es) (below outer path deep groups)
below-last outer path deep [] group es =
    let whole : deep - 0 ≡ deep = omega arith in
    ap (λ (names : List (List ℕ)). then (neighbours (node_within deep) group.left (path ++ names) es) outer) (sym (append-nil (name_of group.name)))
    ∙ ap (λ (d : ℕ). then (neighbours (node_within d) group.left (path ++ (name_of group.name ++ [])) es) outer) (sym whole)
below-last outer path deep (first ∷ groups) group es =
    below-last (λ rest. then (neighbours (node_within deep) first.left (path ++ name_of first.name) rest) outer) (path ++ name_of first.name) (deep - 1) groups group es
    ∙ both (deep - 1 - length groups) (deep - suc (length groups)) _ _ (omega arith) (append_assoc path (name_of first.name) (path_of (groups ++ group ∷ [])))
  where
    next : List SchemaElement → Found
    next = below (λ rest. then (neighbours (node_within deep) first.left (path ++ name_of first.name) rest) outer) (path ++ name_of first.name) (deep - 1) groups

    both : (d e : ℕ) (one other : List (List ℕ)) → d ≡ e → one ≡ other → then (neighbours (node_within d) group.left one es) next ≡ then (neighbours (node_within e) group.left other es) next
    both d e one other p q = rw (p, q) refl

pub after_last : (groups : List OpenGroup) (group : OpenGroup) (es : List SchemaElement) →
    after_groups (groups ++ group ∷ []) es ≡ then (neighbours (node_within (31 - length groups)) group.left (path_of (groups ++ group ∷ [])) es) (after_groups groups)
after_last groups group es = below-last (λ rest. Some ([], rest)) [] 31 groups group es

-- an element that is next in the last group
first_child : (groups : List OpenGroup) (group less : OpenGroup) (n : ℕ) (es : List SchemaElement) → group.left ≡ suc n → less.left ≡ n → less.name ≡ group.name →
    after_groups (groups ++ group ∷ []) es ≡ then (node_within (31 - length groups) (path_of (groups ++ less ∷ [])) es) (after_groups (groups ++ less ∷ []))
unfolding neighbours
first_child groups group less n es left less-left name =
    after_last groups group es
    ∙ ap (λ (k : ℕ). then (neighbours node k (path_of (groups ++ group ∷ [])) es) (after_groups groups)) left
    ∙ ap (λ (path : List (List ℕ)). then (neighbours node (suc n) path es) (after_groups groups)) same_path
    ∙ through (node path es)
  where
    path : List (List ℕ)
    path = path_of (groups ++ less ∷ [])

    node : Walk
    node = node_within (31 - length groups)

    same_path : path_of (groups ++ group ∷ []) ≡ path_of (groups ++ less ∷ [])
    same_path = rest groups
      where
        rest : (gs : List OpenGroup) → path_of (gs ++ group ∷ []) ≡ path_of (gs ++ less ∷ [])
        rest [] = ap (λ (o : Option (Bor (List ℕ))). name_of o ++ []) (sym name)
        rest (g ∷ gs) = ap (λ (names : List (List ℕ)). name_of g.name ++ names) (rest gs)

    through : (o : Found) →
        then (o >>= λ first. neighbours node n path first.1 >>= λ others. Some (first.0 ++ others.0, others.1)) (after_groups groups)
        ≡ then o (after_groups (groups ++ less ∷ []))
    through None = refl
    through (Some first) =
        front_then first.0 (neighbours node n path first.1) (after_groups groups)
        ∙ ap (with_front first.0) (sym (after_last groups less first.1 ∙ ap (λ (k : ℕ). then (neighbours node k path first.1) (after_groups groups)) less-left))

-- ---- the walk

pub below_first : (elements : List SchemaElement) (root : SchemaElement) (es : List SchemaElement) (code : Option TypeCode) → elements ≡ root ∷ es → root.physical_type ≡ code → leaves elements ≡ below_root root code es
unfolding leaves
below_first elements root es code is coded = ap leaves is ∙ ap (λ (o : Option TypeCode). below_root root o es) coded

-- the leaves so far, and those of the open groups, are the leaves that are spelled
pub record IsWalking (spelled : Option (List ColumnDescriptor)) (groups : List OpenGroup) (columns : List ColumnDescriptor) (rest : List SchemaElement) : Type 0 where
  pub same : all_used (with_front columns (after_groups groups rest)) ≡ spelled

pub closes : (spelled : Option (List ColumnDescriptor)) (groups : List OpenGroup) (group : OpenGroup) (columns : List ColumnDescriptor) (rest : List SchemaElement) →
    IsWalking spelled (groups ++ group ∷ []) columns rest → group.left ≡ 0 → IsWalking spelled groups columns rest
unfolding neighbours
closes spelled groups group columns rest h left = record {
  same = ap (λ (o : Found). all_used (with_front columns o)) (sym (after_last groups group rest
      ∙ ap (λ (n : ℕ). then (neighbours (node_within (31 - length groups)) n (path_of (groups ++ group ∷ [])) rest) (after_groups groups)) left
      ∙ front_none (after_groups groups rest)))
      ∙ h.same;
}

-- nothing is read for the next element
none_next : (spelled : Option (List ColumnDescriptor)) (groups : List OpenGroup) (group : OpenGroup) (n : ℕ) (columns : List ColumnDescriptor) (rest : List SchemaElement) →
    IsWalking spelled (groups ++ group ∷ []) columns rest → group.left ≡ suc n →
    ((path : List (List ℕ)) → node_within (31 - length groups) path rest ≡ None) → spelled ≡ None
none_next spelled groups group n columns rest h left none =
    let less : OpenGroup = record { name = group.name; left = n } in
    sym h.same ∙ ap (λ (o : Found). all_used (with_front columns o)) (first_child groups group less n rest left refl refl
    ∙ ap (λ (o : Found). then o (after_groups (groups ++ less ∷ []))) (none (path_of (groups ++ less ∷ []))))

-- what an element with a repetition spells below so many open groups
abbrev below_open : ℕ → List (List ℕ) → SchemaElement × Repetition × List SchemaElement → Found
below_open n path next = node_of (node_within (30 - n)) (path ++ next.0.name ∷ []) next.0 (Some next.1) next.0.physical_type next.2

-- below so many open groups stands the next element, if any
node_is : (n : ℕ) (path : List (List ℕ)) (rest : List SchemaElement) → node_within (31 - n) path rest ≡ (next_element (n + 2) rest >>= below_open n path)
unfolding node_within
node_is n path [] = nothing (31 - n)
  where
    nothing : (d : ℕ) → node_within d path [] ≡ None
    nothing zero = refl
    nothing (suc d) = refl
node_is n path (e ∷ es) = by_depth (nat_le (n + 2) 32) refl
  where
    fits : (o : Option Repetition) → node_of (node_within (30 - n)) (path ++ e.name ∷ []) e o e.physical_type es ≡ ((o >>= λ r. given true (e, r, es)) >>= below_open n path)
    fits None = refl
    fits (Some r) = refl

    too_deep : (o : Option Repetition) → None ≡ ((o >>= λ r. given false (e, r, es)) >>= below_open n path)
    too_deep None = refl
    too_deep (Some r) = refl

    by_depth : (b : Bool) → nat_le (n + 2) 32 ≡ b → node_within (31 - n) path (e ∷ es) ≡ (next_element (n + 2) (e ∷ es) >>= below_open n path)
    by_depth true is =
        let d : 31 - n ≡ suc (30 - n) = omega (arith, leb-true (n + 2) 32 is) in
        ap (λ (d : ℕ). node_within d path (e ∷ es)) d ∙ fits e.repetition ∙ ap (λ (b : Bool). (e.repetition >>= λ r. given b (e, r, es)) >>= below_open n path) (sym is)
    by_depth false is =
        let d : 31 - n ≡ 0 = omega (arith, leb-false (n + 2) 32 is) in
        ap (λ (d : ℕ). node_within d path (e ∷ es)) d ∙ too_deep e.repetition ∙ ap (λ (b : Bool). (e.repetition >>= λ r. given b (e, r, es)) >>= below_open n path) (sym is)

pub lacks : (spelled : Option (List ColumnDescriptor)) (groups : List OpenGroup) (group : OpenGroup) (n : ℕ) (columns : List ColumnDescriptor) (rest : List SchemaElement) →
    IsWalking spelled (groups ++ group ∷ []) columns rest → group.left ≡ suc n → next_element (length groups + 2) rest ≡ None → spelled ≡ None
lacks spelled groups group n columns rest h left none =
    none_next spelled groups group n columns rest h left (λ path. node_is (length groups) path rest ∙ ap (λ (o : Option (SchemaElement × Repetition × List SchemaElement)). o >>= below_open (length groups) path) none)

-- a leaf
leaf_is : (groups : List OpenGroup) (less : OpenGroup) (rest : List SchemaElement) (e : SchemaElement) (es : List SchemaElement) (r : Repetition) (code : TypeCode) →
    next_element (length groups + 2) rest ≡ Some (e, r, es) → e.physical_type ≡ Some code →
    node_within (31 - length groups) (path_of (groups ++ less ∷ [])) rest ≡ option_map (λ leaf. (leaf ∷ [], es)) (leaf_of (path_of (groups ++ less ∷ []) ++ e.name ∷ []) e r code)
leaf_is groups less rest e es r code next coded =
    node_is (length groups) (path_of (groups ++ less ∷ [])) rest
    ∙ ap (λ (o : Option (SchemaElement × Repetition × List SchemaElement)). o >>= below_open (length groups) (path_of (groups ++ less ∷ []))) next
    ∙ ap (λ (o : Option TypeCode). node_of (node_within (30 - length groups)) (path_of (groups ++ less ∷ []) ++ e.name ∷ []) e (Some r) o es) coded

pub leaf_fails : (spelled : Option (List ColumnDescriptor)) (groups : List OpenGroup) (group less : OpenGroup) (n : ℕ) (columns : List ColumnDescriptor) (rest : List SchemaElement) (e : SchemaElement) (es : List SchemaElement) (r : Repetition) (code : TypeCode) →
    IsWalking spelled (groups ++ group ∷ []) columns rest → group.left ≡ suc n → less.left ≡ n → less.name ≡ group.name →
    next_element (length groups + 2) rest ≡ Some (e, r, es) → e.physical_type ≡ Some code → leaf_of (path_of (groups ++ less ∷ []) ++ e.name ∷ []) e r code ≡ None → spelled ≡ None
leaf_fails spelled groups group less n columns rest e es r code h left less-left name next coded none =
    sym h.same ∙ ap (λ (o : Found). all_used (with_front columns o)) (first_child groups group less n rest left less-left name
    ∙ ap (λ (o : Found). then o (after_groups (groups ++ less ∷ []))) (leaf_is groups less rest e es r code next coded
    ∙ ap (λ (o : Option ColumnDescriptor). option_map (λ leaf. (leaf ∷ [], es)) o) none))

pub passes : (spelled : Option (List ColumnDescriptor)) (groups : List OpenGroup) (group less : OpenGroup) (n : ℕ) (columns : List ColumnDescriptor) (rest : List SchemaElement) (e : SchemaElement) (es : List SchemaElement) (r : Repetition) (code : TypeCode) (leaf : ColumnDescriptor) →
    IsWalking spelled (groups ++ group ∷ []) columns rest → group.left ≡ suc n → less.left ≡ n → less.name ≡ group.name →
    next_element (length groups + 2) rest ≡ Some (e, r, es) → e.physical_type ≡ Some code → leaf_of (path_of (groups ++ less ∷ []) ++ e.name ∷ []) e r code ≡ Some leaf →
    IsWalking spelled (groups ++ less ∷ []) (columns ++ leaf ∷ []) es
passes spelled groups group less n columns rest e es r code leaf h left less-left name next coded one = record {
  same = ap all_used (sym (front_front columns (leaf ∷ []) (after_groups (groups ++ less ∷ []) es)))
      ∙ sym (ap (λ (o : Found). all_used (with_front columns o)) (first_child groups group less n rest left less-left name
      ∙ ap (λ (o : Found). then o (after_groups (groups ++ less ∷ []))) (leaf_is groups less rest e es r code next coded
      ∙ ap (λ (o : Option ColumnDescriptor). option_map (λ leaf. (leaf ∷ [], es)) o) one)))
      ∙ h.same;
}

path-last : (groups : List OpenGroup) (name : Bor (List ℕ)) (group : OpenGroup) → group.name ≡ Some name → path_of (groups ++ group ∷ []) ≡ path_of groups ++ name.now ∷ []
path-last [] name group is = ap (λ (o : Option (Bor (List ℕ))). name_of o ++ []) is
path-last (g ∷ groups) name group is = ap (λ (names : List (List ℕ)). name_of g.name ++ names) (path-last groups name group is) ∙ sym (append_assoc (name_of g.name) (path_of groups) (name.now ∷ []))

pub opens : (spelled : Option (List ColumnDescriptor)) (groups : List OpenGroup) (group less new : OpenGroup) (n : ℕ) (columns : List ColumnDescriptor) (rest : List SchemaElement) (e : SchemaElement) (es : List SchemaElement) (r : Repetition) (name : Bor (List ℕ)) →
    IsWalking spelled (groups ++ group ∷ []) columns rest → group.left ≡ suc n → less.left ≡ n → less.name ≡ group.name →
    next_element (length groups + 2) rest ≡ Some (e, r, es) → e.physical_type ≡ None → new.name ≡ Some name → name.now ≡ e.name → new.left ≡ children_of e →
    IsWalking spelled ((groups ++ less ∷ []) ++ new ∷ []) columns es
opens spelled groups group less new n columns rest e es r name h left less-left same_name next group-like named name-is new-left = record {
  same = ap (λ (o : Found). all_used (with_front columns o)) (after_last (groups ++ less ∷ []) new es ∙ ap (λ (o : Found). then o (after_groups (groups ++ less ∷ []))) (sym child))
      ∙ sym (ap (λ (o : Found). all_used (with_front columns o)) (first_child groups group less n rest left less-left same_name))
      ∙ h.same;
}
  where
    path : List (List ℕ)
    path = path_of (groups ++ less ∷ [])

    deeper : 31 - length (groups ++ less ∷ []) ≡ 30 - length groups
    deeper = omega (arith, length-append groups (less ∷ []))

    child : node_within (31 - length groups) path rest ≡ neighbours (node_within (31 - length (groups ++ less ∷ []))) new.left (path_of ((groups ++ less ∷ []) ++ new ∷ [])) es
    child =
        node_is (length groups) path rest
        ∙ ap (λ (o : Option (SchemaElement × Repetition × List SchemaElement)). o >>= below_open (length groups) path) next
        ∙ ap (λ (o : Option TypeCode). node_of (node_within (30 - length groups)) (path ++ e.name ∷ []) e (Some r) o es) group-like
        ∙ sym (ap (λ (d : ℕ). neighbours (node_within d) new.left (path_of ((groups ++ less ∷ []) ++ new ∷ [])) es) deeper
        ∙ ap (λ (k : ℕ). neighbours (node_within (30 - length groups)) k (path_of ((groups ++ less ∷ []) ++ new ∷ [])) es) new-left
        ∙ ap (λ (names : List (List ℕ)). neighbours (node_within (30 - length groups)) (children_of e) names es) (path-last (groups ++ less ∷ []) name new named ∙ ap (λ (x : List ℕ). path ++ x ∷ []) name-is))
