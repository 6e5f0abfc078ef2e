pub mod Conjoining
