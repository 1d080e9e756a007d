-- Each step is given what the steps before it left, and the three together are what delete does to the image.
use borrow.Author.Rules.{rules}
use Rattle.update.proofs.DeleteLaws.{Deleting}
use Rattle.delete.proofs.ChainLaws.{deleting, index-inside, index-numbers, storage-inside, storage-headers, slots-inside, chain-deleted}
use Rattle.delete.proofs.delete_chain.Goals as goal

pub members_of-m-requires : goal.members_of-m-requires
members_of-m-requires c = let p = c.requires in (p.0, p.2, p.3, p.5)

pub clear_index-requires : goal.clear_index-requires
clear_index-requires c =
    let a = c.args in
    let p = c.requires in
    let m = c.members_of-m.ensures in
    let file : Deleting a.image.now a.n.0 = deleting _ _ (record { each = λ i. search rules }) p.0.0 p.1 p.2 p.4 in
    (index-inside _ _ file a.v p.0.1 _ m, m.most, index-numbers _ _ file a.v p.0.1 _ m)

pub free_headers-requires : goal.free_headers-requires
free_headers-requires c =
    let a = c.args in
    let p = c.requires in
    let m = c.members_of-m.ensures in
    let file : Deleting a.image.now a.n.0 = deleting _ _ (record { each = λ i. search rules }) p.0.0 p.1 p.2 p.4 in
    let q = c.map_blocks-q.ensures.0 in
    (storage-inside _ _ file a.v p.0.1 _ m _ _ c.clear_index.ensures q, m.most, storage-headers _ _ file a.v p.0.1 _ m _ _ c.clear_index.ensures q)

pub clear_slots-requires : goal.clear_slots-requires
clear_slots-requires c =
    let a = c.args in
    let p = c.requires in
    let m = c.members_of-m.ensures in
    let file : Deleting a.image.now a.n.0 = deleting _ _ (record { each = λ i. search rules }) p.0.0 p.1 p.2 p.4 in
    (m.most, slots-inside _ _ file a.v p.0.1 _ m _ _ c.clear_index.ensures c.map_blocks-q.ensures.0 _ c.free_headers.ensures)

pub returns : goal.returns
returns c =
    let a = c.args in
    let p = c.requires in
    let file : Deleting a.image.now a.n.0 = deleting _ _ (record { each = λ i. search rules }) p.0.0 p.1 p.2 p.4 in
    chain-deleted _ _ file a.v p.0.1 _ c.members_of-m.ensures _ _ c.clear_index.ensures c.map_blocks-q.ensures.0 _ c.free_headers.ensures _ c.clear_slots.ensures
