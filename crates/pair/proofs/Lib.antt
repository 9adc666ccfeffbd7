pub mod AtNeighbour
