mod EachCall
